-- A law of hook calls: two lists of calls, one after another.
use Rattle.std.proofs.Common.{List, [], ◌∷◌, ◌++◌, subst}
use Rattle.quick_cache_model.specs.Hooks.{HookCall, BeforeEvict, EvictHot, EvictCold, Hooks, RunsHooks}

module _ {K V S : Type 0} (hooks : Hooks K V S) where
  -- calls that lead to a state, and calls that lead on from it, lead there together
  pub RunsHooks-append : (es fs : List (HookCall K V)) (first mid last : S)
      → RunsHooks hooks es first mid → RunsHooks hooks fs mid last
      → RunsHooks hooks (es ++ fs) first last
  RunsHooks-append [] fs first mid last runs then = subst (λ s. RunsHooks hooks fs s last) runs then
  RunsHooks-append (BeforeEvict key value left ∷ es) fs first mid last runs then =
      (runs.0, runs.1, RunsHooks-append es fs runs.0 mid last runs.2 then)
  RunsHooks-append (EvictHot key value ∷ es) fs first mid last runs then =
      (runs.0, runs.1, RunsHooks-append es fs runs.0 mid last runs.2 then)
  RunsHooks-append (EvictCold key value ∷ es) fs first mid last runs then =
      (runs.0, runs.1, RunsHooks-append es fs runs.0 mid last runs.2 then)
