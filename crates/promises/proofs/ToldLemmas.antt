-- What follows from what hooks were told.
use Rattle.std.proofs.Common.{◌≡◌, Bool, true, false, true≢false, List, [], ◌∷◌, Result, Ok, Err, None, IsPermutation, sym, subst, ◌∙◌}
use Rattle.std.proofs.lemmas.List.Sorted.{IsPermutation-trans}
use Rattle.quick_cache_model.specs.declared.refusal.Refusal.{Refusal}
use Rattle.quick_cache_model.specs.CacheState.{CacheState}
use Rattle.quick_cache_model.specs.Hooks.{Rules, Hooks, HookCall, BeforeEvict, EvictHot, EvictCold, RunsHooks}
use Rattle.quick_cache_model.specs.Fitting.{AllFit}
use Rattle.quick_cache_model.specs.Leads.{Leads, Tells}
use Rattle.quick_cache_model.proofs.Fitting.{RunsHooks-fits, TellsBeside-fits}
use Rattle.quick_cache_unsync.specs.Inserts.{Inserts}

-- hooks that change no value, and note where a pair leaves
abbrev pub noting : (K V : Type 0) → Hooks K V Bool
noting K V = record {
  before_evict = λ old _ value new left. (new ≡ old) × (left ≡ value);
  evict_hot = λ _ _ _ new. new ≡ true;
  evict_cold = λ _ _ _ new. new ≡ true;
}

module _ {K V : Type 0} where
  -- where nothing was noted at last, nothing was at first, and no pair left
  pub untold : (pairs others : List (K × V)) (calls : List (HookCall K V)) (first last : Bool)
      → RunsHooks (noting K V) calls first last → last ≡ false → Tells pairs calls others
      → (first ≡ false) × IsPermutation pairs others
  untold pairs others [] first last runs none (Leads.rests _ _ order) = (sym runs ∙ none, order)
  untold pairs others (BeforeEvict key value left ∷ calls) first last runs none
      (Leads.changes _ _ _ _ rest _ _ order leads) =
      let later = untold ((key, left) ∷ rest) others calls runs.0 last runs.2 none leads in (
        sym runs.1.0 ∙ later.0,
        IsPermutation-trans pairs ((key, left) ∷ rest) others
            (subst (λ v. IsPermutation pairs ((key, v) ∷ rest)) (sym runs.1.1) order) later.1,
      )
  untold pairs others (EvictHot key value ∷ calls) first last runs none
      (Leads.leaves _ _ _ rest _ _ order leads) =
      let later = untold rest others calls runs.0 last runs.2 none leads in
      absurd (true≢false (sym runs.1 ∙ later.0))
  untold pairs others (EvictCold key value ∷ calls) first last runs none
      (Leads.leaves _ _ _ rest _ _ order leads) =
      let later = untold rest others calls runs.0 last runs.2 none leads in
      absurd (true≢false (sym runs.1 ∙ later.0))

module _ {K V S : Type 0} (fits : K → V → Type 0) (steady : Type 0) (hooks : Hooks K V S)
    (keeps : (was : S) (k : K) (v : V) (now : S) (left : V)
    → hooks.before_evict was k v now left → fits k v → fits k left)
    (rules : Rules K V) (equal : K → K → Bool) (old : CacheState K V) (first : S) (key : K)
    (value : V) (new : CacheState K V) (last : S) where
  -- an insert of a pair that fits leaves values that fit
  pub Inserts-fits : (answer : Result (Unit {0}) (K × V × Refusal))
      → Inserts steady hooks rules equal old first key value answer new last → fits key value
      → AllFit fits old → AllFit fits new
  Inserts-fits (Ok done) wrote is fit =
      TellsBeside-fits fits key value old new wrote.step.calls None
      (RunsHooks-fits fits hooks keeps wrote.step.calls first last wrote.step.runs)
      wrote.step.holds.2 is fit
  Inserts-fits (Err back) refuses is fit =
      subst (λ (s : CacheState K V). AllFit fits s) (sym refuses.unchanged) fit
