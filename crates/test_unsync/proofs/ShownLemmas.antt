-- A run of one look-up shows what stands under its key.
use Rattle.std.proofs.Common.{◌≡◌, Bool, List, [], ◌∷◌, Option, Some, None, IfSome, sym, subst}
use Rattle.std.specs.List.{All}
use Rattle.std.proofs.lemmas.List.Elements.{All-nil, All-cons}
use Rattle.quick_cache_model.specs.CacheState.{CacheState}
use Rattle.quick_cache_model.specs.Hooks.{Rules, HookCall}
use Rattle.quick_cache_model.specs.Lookups.{LooksUp}
use Rattle.quick_cache_model.specs.declared.calls.call.Call.{Call}
use Rattle.quick_cache_model.specs.declared.calls.reply.Reply.{Reply}
use Rattle.quick_cache_model.specs.CacheStep.{CacheStep}
use Rattle.quick_cache_model.specs.CacheRun.{CacheRun}
use Rattle.quick_cache_model.specs.Shown.{IsShown}
use Rattle.quick_cache_runs.specs.Asked.{IfAsks}
use Rattle.test_unsync.specs.Shown.{IsShownUnder}

-- a list of one look-up asks no predicate, so anything holds of those that it asks
pub one_look_asks : {K V F : Type 0} (P : F → Type 0) (calls : List (Call K V F)) (key : K)
    → calls ≡ Call.Get key ∷ [] → All (IfAsks P) calls
one_look_asks P calls key one =
    subst (All (IfAsks P)) (sym one)
    (All-cons (IfAsks P) (Call.Get key) [] tt (All-nil (IfAsks P)))

looked : {K V : Type 0} (shows : V → V → Type 0) (stands_for : K → Bool) (old : CacheState K V)
    {found : Option V} {new : CacheState K V}
    → LooksUp stands_for old (λ item. item.value) found new
    → (w : V) → IsShown shows found (Some w) → IsShownUnder stands_for shows old w
looked shows stands_for old (LooksUp.hit place before item after at) w is =
    record { place = place; before = before; item = item; after = after; at = at; is_shown = is }
looked shows stands_for old (LooksUp.miss none) w is = absurd is

module _ {K V F M : Type 0} (rules : Rules K V) (equal : K → K → Bool)
    (shows_key : K → K → Type 0) (shows : V → V → Type 0) (answers : F → K → V → Bool) where
  step-shown : (old : CacheState K V) (key : K) (w : V) (calls : List (HookCall K V))
      (new : CacheState K V)
      → CacheStep {M = M} rules equal shows_key shows answers old (Call.Get key)
      (Reply.Value (Some w)) calls
      new → IsShownUnder (equal key) shows old w
  step-shown old key w _ _ (CacheStep.gets _ found _ new looks is) =
      looked shows (equal key) old looks.holds w is

  pub run-shown : (old : CacheState K V) {calls : List (Call K V F)} {replies : List (Reply K V M)}
      {hook_calls : List (HookCall K V)} {new : CacheState K V}
      → CacheRun rules equal shows_key shows answers old calls replies hook_calls new → (key : K)
      → calls ≡ Call.Get key ∷ [] → (w : V) (more : List (Reply K V M))
      → replies ≡ Reply.Value (Some w) ∷ more → IsShownUnder (equal key) shows old w
  run-shown old (CacheRun.ends state) key one w more told = absurd cc
  run-shown old (CacheRun.goes_on _ mid new call reply calls replies first rest step run) key one w
      more told =
      let asked : call ≡ Call.Get key = cc in
      let first_told : reply ≡ Reply.Value (Some w) = cc in
      step-shown old key w first mid
      (subst (λ (x : Call K V F × Reply K V M). CacheStep rules equal shows_key shows answers old
      x.0 x.1 first mid) (λ i. (asked i, first_told i)) step)

  -- what the first reply shows, if it is a value
  pub run-shows : (old : CacheState K V) {calls : List (Call K V F)} {replies : List (Reply K V M)}
      {hook_calls : List (HookCall K V)} {new : CacheState K V}
      → CacheRun rules equal shows_key shows answers old calls replies hook_calls new → (key : K)
      → calls ≡ Call.Get key ∷ [] → (answer : Option V) (more : List (Reply K V M))
      → replies ≡ Reply.Value answer ∷ more → IfSome answer (IsShownUnder (equal key) shows old)
  run-shows old run key one None more told = tt
  run-shows old run key one (Some w) more told = run-shown old run key one w more told
