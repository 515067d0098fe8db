use Rattle.std.proofs.Common.{ℕ, ◌≡◌, ◌<◌, List, Option, Some, None, IfSome, sym, subst}
use Rattle.quick_cache_model.specs.CacheState.{CacheState}
use Rattle.quick_cache_model.specs.Hooks.{HookCall, Hooks, RunsHooks}
use Rattle.quick_cache_model.specs.Fitting.{AllFit}
use Rattle.quick_cache_model.specs.Leads.{TellsBeside}
use Rattle.quick_cache_model.proofs.HookStates.{HooksKeep, TellsBeside-keeps}
use Rattle.promises.proofs.behind_a_lock.fitting.insert_and_listen.Goals as goal

-- a value that left, if one did, is above zero
abbrev LeftFits : Option ℕ → Type 0
LeftFits left = IfSome left (λ gone. 0 < gone)

abbrev AboveZero : ℕ → ℕ → Type 0
AboveZero key value = 0 < value

last-left : (value : ℕ) (now : Option ℕ) → now ≡ Some value → 0 < value → LeftFits now
last-left value now is above = subst LeftFits (sym is) above

same-left : (was now : Option ℕ) → now ≡ was → LeftFits was → LeftFits now
same-left was now is fits = subst LeftFits (sym is) fits

keeps : (hooks : Hooks ℕ ℕ (Option ℕ)) (key value : ℕ) (old new : CacheState ℕ ℕ)
    (calls : List (HookCall ℕ ℕ)) (last : Option ℕ) → RunsHooks hooks calls None last
    → TellsBeside key value old calls None new → AboveZero key value → AllFit AboveZero old
    → HooksKeep AboveZero hooks LeftFits → LeftFits last
keeps hooks key value old new calls last runs tells above fit keep =
    TellsBeside-keeps AboveZero hooks LeftFits keep key value old new calls None None last runs tells
    above fit tt

-- each hook call leaves a value that fits, or what was there
pub returns : goal.returns
returns g c =
    let from = c.in_ok-insert_with_lifecycle.ensures.answers in
    let wrote = from.holds.step in
    keeps _ c.args.key c.args.value from.shard.state from.holds.new wrote.step.calls _
    wrote.step.runs wrote.step.holds.2
    c.requires from.kept.fit (record {
      before = λ was key value now left gives is holds. same-left was now gives.0 holds;
      leaves = λ was key value now left gives is. gives.1 is;
      hot = λ was key value now gives is holds. last-left value now gives is;
      cold = λ was key value now gives is holds. last-left value now gives is;
    })
