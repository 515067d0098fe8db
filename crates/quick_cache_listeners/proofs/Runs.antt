-- What a run of the hooks tells the listener.
use Rattle.std.proofs.Common.{List, [], ◌∷◌, ap, sym, subst}
use Rattle.std.specs.List.{FoldsTo}
use Rattle.quick_cache_model.specs.Hooks.{HookCall, BeforeEvict, EvictHot, EvictCold, RunsHooks}
use Rattle.quick_cache_listeners.specs.declared.causes.cause.Cause.{Cause}
use Rattle.quick_cache_listeners.specs.declared.causes.listener.Request.{Request}
use Rattle.quick_cache_listeners.specs.Causes.{told}
use Rattle.quick_cache_listeners.specs.CauseLaws.{hooks_why}

module _ {K V S : Type 0} (tells : S → K → V → Cause → S → Type 0) where
  pub runs-tell : (calls : List (HookCall K V)) (first last : Request S)
      → RunsHooks (hooks_why tells) calls first last
      → FoldsTo (λ old pair new. tells old pair.0 pair.1 pair.2 new) first.state
      (told first.stage calls) last.state
  runs-tell [] first last runs = sym (ap (λ request. request.state) runs)
  runs-tell (BeforeEvict key value left ∷ calls) first last runs =
      let arms = runs.1 in
      subst (λ mid. FoldsTo (λ old pair new. tells old pair.0 pair.1 pair.2 new) mid.state
      (told mid.stage calls) last.state) arms.0 (runs-tell calls runs.0 last runs.2)
  runs-tell (EvictHot key value ∷ calls) first last runs =
      let does = runs.1 in (
        runs.0.state,
        does.0,
        subst (λ stage. FoldsTo (λ old pair new. tells old pair.0 pair.1 pair.2 new) runs.0.state
            (told stage calls) last.state) does.1 (runs-tell calls runs.0 last runs.2),
      )
  runs-tell (EvictCold key value ∷ calls) first last runs =
      let does = runs.1 in (
        runs.0.state,
        does.0,
        subst (λ stage. FoldsTo (λ old pair new. tells old pair.0 pair.1 pair.2 new) runs.0.state
            (told stage calls) last.state) does.1 (runs-tell calls runs.0 last runs.2),
      )
