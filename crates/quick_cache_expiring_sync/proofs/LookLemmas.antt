-- Looks at entries that end, from looks at values with their ends.
use Rattle.std.proofs.Common.{◌≡◌, ℕ, Bool, true, false, Option, Some, None, Result, Ok, Err, IfSome, ap, refl, subst, sym, ◌∙◌, if◌then◌else◌}
use Rattle.std.specs.Result.{IsErrAnd}
use Rattle.std.proofs.lemmas.Result.{err_from_is_err_and}
use Rattle.quick_cache_model.specs.declared.refusal.Refusal.{Refusal}
use Rattle.quick_cache_model.specs.declared.terms.lifecycle.Lifecycle as lifecycle
use Rattle.quick_cache_model.specs.CacheState.{CacheState}
use Rattle.quick_cache_shard.specs.Shard.{Shard}
use Rattle.quick_cache_locked.specs.Locked.{FromSome}
use Rattle.quick_cache_locked.specs.Fitting.{FitsQuery}
use Rattle.quick_cache_locked.specs.Peeks.{Miss, Peeks, PeeksIf}
use Rattle.quick_cache_shard.proofs.TestLemmas.{PeeksIf-weaker}
use Rattle.quick_cache_sync.specs.Tries.{IsTried}
use Rattle.quick_cache_sync.specs.declared.error.TryError.{TryError}
use Rattle.quick_cache_expiring.specs.declared.lasting.Lasting.{Lasting}
use Rattle.quick_cache_expiring.specs.Entries.{AnswersAt}
use Rattle.quick_cache_expiring.specs.Lastings.{ClonesLasting}
use Rattle.quick_cache_expiring.specs.Lives.{lives}
use Rattle.quick_cache_expiring_sync.specs.Looks.{FitsAt, ShowsAt, ShowsEnd, ShowsServing, serving}

-- what holds of some shard does so in other words
pub FromSome-map : {K V We B L S : Type 0} (life : lifecycle.Ghosts L K V S)
    (equal : K → K → Bool) (P Q : Shard K V We B L → Type 0)
    → ((shard : Shard K V We B L) → P shard → Q shard)
    → FromSome life equal P → FromSome life equal Q
FromSome-map life equal P Q says some = record {
  shard = some.shard;
  kept = some.kept;
  holds = says some.shard some.holds;
}

-- what is handed on by `?` is the refusal of the call before
pub handed-on : {X E : Type 0} (answer : Result X E) (refusal : E)
    → IsErrAnd answer (λ handed. handed ≡ refusal) → answer ≡ Err refusal
handed-on answer refusal same =
    let handed = err_from_is_err_and answer same in handed.1 ∙ ap Err handed.2

-- the value that a look with a test shows
abbrev pub shown_of : {V : Type 0} → Result (Result (Lasting V) Miss) Refusal
    → Result (Option V) Refusal
shown_of (Ok (Ok lasting)) = Ok (Some lasting.value)
shown_of (Ok (Err miss)) = Ok None
shown_of (Err refusal) = Err refusal

module _ {K V : Type 0} (test : K → Bool) (is_clone : V → V → Type 0) (now : ℕ)
    (answers : Lasting V → Bool → Type 0)
    (told : (lasting : Lasting V) (said : Bool) → answers lasting said → AnswersAt now lasting said)
  where
    -- a look with the test whether an entry serves is one at a moment
    pub ShowsAt-tested : (state : CacheState K (Lasting V))
        (found : Result (Result (Lasting V) Miss) Refusal)
        → PeeksIf test (ClonesLasting is_clone) answers state found
        → ShowsAt test is_clone now state (shown_of found)
    ShowsAt-tested state (Ok (Ok lasting)) peeks = (
      lasting.until,
      PeeksIf-weaker test answers (AnswersAt now) told state (ClonesLasting is_clone)
          (Ok (Ok lasting)) peeks,
    )
    ShowsAt-tested state (Ok (Err miss)) peeks = (
      miss,
      PeeksIf-weaker test answers (AnswersAt now) told state (ClonesLasting is_clone)
          (Ok (Err miss)) peeks,
    )
    ShowsAt-tested state (Err refusal) peeks =
        PeeksIf-weaker test answers (AnswersAt now) told state (ClonesLasting is_clone)
        (Err refusal) peeks

    -- what it shows fits with an end that is not reached
    pub FitsAt-tested : (fits : K → Lasting V → Type 0) (state : CacheState K (Lasting V))
        (lasting : Lasting V)
        → PeeksIf test (ClonesLasting is_clone) answers state (Ok (Ok lasting))
        → FitsQuery fits test lasting → FitsAt fits test now lasting.value
    FitsAt-tested fits state _ (PeeksIf.passes value clone sees said cloned) fit = record {
      until = clone.until;
      lives_then = ap (λ until. lives until now) cloned.1 ∙ sym (told value true said);
      fits_query = fit;
    }

module _ {K V : Type 0} (test : K → Bool) (is_clone : V → V → Type 0)
    (answer : Result (Option (Lasting V)) Refusal) (state : CacheState K (Lasting V)) where
  -- the end of a value that is seen is shown
  pub ShowsEnd-found : (lasting : Lasting V) → answer ≡ Ok (Some lasting)
      → Peeks test (ClonesLasting is_clone) state answer
      → ShowsEnd test is_clone state (Ok (Some lasting.until))
  ShowsEnd-found lasting is seen =
      (lasting.value, subst (Peeks test (ClonesLasting is_clone) state) is seen)

-- a look that does not wait is refused as one that does
pub IsTried-refused : {K V L S : Type 0} (We B : Type 0) (life : lifecycle.Ghosts L K (Lasting V) S)
    (equal : K → K → Bool) (test : K → Bool) (is_clone : V → V → Type 0) (now : ℕ)
    (error : TryError)
    → IsTried
    (λ answer. FromSome life equal (λ (shard : Shard K (Lasting V) We B L).
    Peeks test (ClonesLasting is_clone) shard.state answer)) (Err error)
    → IsTried
    (λ answer. FromSome life equal (λ (shard : Shard K (Lasting V) We B L).
    ShowsServing test is_clone now shard.state answer)) (Err error)
IsTried-refused We B life equal test is_clone now (TryError.Contended contention) tried = tt
IsTried-refused We B life equal test is_clone now (TryError.Refused refusal) tried = record {
  shard = tried.shard;
  kept = tried.kept;
  holds = record { found = Err refusal; peeks = tried.holds; serves = refl };
}

module _ {K V : Type 0} (fits : K → Lasting V → Type 0) (test : K → Bool) (now : ℕ) where
  given-fitting : (lasting : Lasting V) → FitsQuery fits test lasting → (live : Bool)
      → live ≡ lives lasting.until now
      → IfSome (if live then Some lasting.value else None) (FitsAt fits test now)
  given-fitting lasting fit true is =
      record { until = lasting.until; lives_then = sym is; fits_query = fit }
  given-fitting lasting fit false is = tt

  -- what serves of what was found fits with an end that is not reached
  pub FitsAt-serving : (found : Option (Lasting V)) → IfSome found (FitsQuery fits test)
      → IfSome (serving now found) (FitsAt fits test now)
  FitsAt-serving None fit = tt
  FitsAt-serving (Some lasting) fit =
      given-fitting lasting fit (lives lasting.until now) refl
