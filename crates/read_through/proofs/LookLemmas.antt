-- What a look shows whose test is whether a value serves.
use Rattle.std.proofs.Common.{◌≡◌, ℕ, Bool, true, Option, Some, None, Result, Ok, Err, refl, subst, sym}
use Rattle.quick_cache_model.specs.declared.refusal.Refusal.{Refusal}
use Rattle.quick_cache_model.specs.CacheState.{CacheState}
use Rattle.quick_cache_locked.specs.Fitting.{FitsQuery}
use Rattle.quick_cache_locked.specs.Peeks.{Miss, PeeksIf}
use Rattle.quick_cache_shard.proofs.TestLemmas.{PeeksIf-weaker}
use Rattle.quick_cache_expiring.specs.declared.loaded.Loaded.{Loaded}
use Rattle.quick_cache_expiring.specs.Moments.{Serves}
use Rattle.read_through.specs.Answers.{AnswersFor, IsOf}
use Rattle.read_through.specs.Serving.{ClonesLoaded, ShowsServing, TellsServing}
use Rattle.read_through.proofs.AnswerLemmas.{AnswersFor-found}

-- the value that a look with a test shows
abbrev pub shown_of : {V : Type 0} → Result (Result (Loaded V) Miss) Refusal
    → Result (Option V) Refusal
shown_of (Ok (Ok found)) = Ok (Some found.value)
shown_of (Ok (Err miss)) = Ok None
shown_of (Err refusal) = Err refusal

module _ {K V : Type 0} (stands_for : K → Bool) (is_clone : V → V → Type 0) (life_of : V → ℕ → ℕ)
    (now : ℕ) (answers : Loaded V → Bool → Type 0)
    (told : (loaded : Loaded V) (said : Bool) → answers loaded said
    → TellsServing life_of now loaded said) (state : CacheState K (Loaded V)) where
  -- with the test whether it serves it shows what serves
  pub ShowsServing-tested : (found : Result (Result (Loaded V) Miss) Refusal)
      → PeeksIf stands_for (ClonesLoaded is_clone) answers state found
      → ShowsServing stands_for is_clone life_of now state (shown_of found)
  ShowsServing-tested (Ok (Ok found)) peeks = (
    found,
    refl,
    PeeksIf-weaker stands_for answers (TellsServing life_of now) told state (ClonesLoaded is_clone)
        (Ok (Ok found)) peeks,
  )
  ShowsServing-tested (Ok (Err miss)) peeks = (
    miss,
    PeeksIf-weaker stands_for answers (TellsServing life_of now) told state (ClonesLoaded is_clone)
        (Ok (Err miss)) peeks,
  )
  ShowsServing-tested (Err refusal) peeks =
      PeeksIf-weaker stands_for answers (TellsServing life_of now) told state
      (ClonesLoaded is_clone) (Err refusal) peeks

  -- and where that fits it is an answer, since a clone lives as long
  pub AnswersFor-tested : (gives : K → ℕ → V → Type 0) (equal : K → K → Bool)
      → ((value clone : V) (moment : ℕ) → is_clone value clone
      → life_of clone moment ≡ life_of value moment)
      → (found : Loaded V)
      → PeeksIf stands_for (ClonesLoaded is_clone) answers state (Ok (Ok found))
      → FitsQuery (λ (key : K) (loaded : Loaded V).
      IsOf gives equal key loaded.moment loaded.value) stands_for found
      → AnswersFor gives equal stands_for life_of now found.value
  AnswersFor-tested gives equal keeps_life _ (PeeksIf.passes value clone sees said cloned) fits =
      AnswersFor-found gives equal stands_for now life_of clone fits
      (subst (λ life. Serves life clone.moment now)
      (sym (keeps_life value.value clone.value clone.moment cloned.0))
      (subst (λ moment. Serves (life_of value.value moment) moment now) (sym cloned.1)
      ((told value true said).0 refl)))
