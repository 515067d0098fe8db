-- Each call of a run has its reply.
use Rattle.std.proofs.Common.{◌≡◌, ◌∙◌, Bool, List, ◌++◌, length, Result, Ok, Err, IfOk, IfErr, Vec, refl, sym, ap, arith}
use Rattle.quick_cache_model.specs.CacheState.{CacheState}
use Rattle.quick_cache_model.specs.CacheRun.{CacheRun, RunsCalls}
use Rattle.quick_cache_model.specs.Hooks.{Rules, Hooks, HookCall}
use Rattle.quick_cache_model.specs.declared.calls.call.Call.{Call}
use Rattle.quick_cache_model.specs.declared.calls.reply.Reply.{Reply}

module _ {K V F M : Type 0} (rules : Rules K V) (equal : K → K → Bool)
    (shows_key : K → K → Type 0) (shows : V → V → Type 0) (answers : F → K → V → Bool) where
  -- there are as many replies as calls
  as-many : (old : CacheState K V) (calls : List (Call K V F)) (replies : List (Reply K V M))
      (hook_calls : List (HookCall K V)) (new : CacheState K V)
      → CacheRun rules equal shows_key shows answers old calls replies hook_calls new
      → length replies ≡ length calls
  as-many _ _ _ _ _ (CacheRun.ends state) = refl
  as-many _ _ _ _ _
      (CacheRun.goes_on old mid new call reply calls replies first rest step run) =
      omega (arith, as-many mid calls replies rest new run)

  module _ {S A : Type 0} (hooks : Hooks K V S) (old : CacheState K V) (first : S)
      (calls : List (Call K V F)) (new : CacheState K V) (last : S) where
    -- so it is where all calls were made
    pub replies-count : (result : Result (Vec (Reply K V M) A)
        (Vec (Reply K V M) A × Vec (Call K V F) A))
        → RunsCalls rules equal shows_key shows answers hooks old first calls result new last
        → IfOk result (λ replies. length replies.items ≡ length calls)
    replies-count (Ok replies) run =
        as-many old calls replies.items run.hook_calls new run.steps
    replies-count (Err back) stops = tt

    -- and else the others come back
    pub rest-comes-back : (result : Result (Vec (Reply K V M) A)
        (Vec (Reply K V M) A × Vec (Call K V F) A))
        → RunsCalls rules equal shows_key shows answers hooks old first calls result new last
        → IfErr result (λ back. (made : List (Call K V F)) × (calls ≡ made ++ back.1.items)
        × (length back.0.items ≡ length made))
    rest-comes-back (Ok replies) run = tt
    rest-comes-back (Err back) stops = (
      stops.made,
      stops.parts ∙ ap (λ (rest : List (Call K V F)). stops.made ++ rest) (sym stops.comes_back),
      as-many old stops.made back.0.items stops.runs.hook_calls new stops.runs.steps,
    )
