-- What looks at entries that end show, beside other threads.
use Rattle.std.specs.Prelude.{◌≡◌, ℕ, Bool, true, Option, Some, None, Result, Ok, Err, IfOk, IfSome, if◌then◌else◌}
use Rattle.quick_cache_model.specs.declared.refusal.Refusal.{Refusal}
use Rattle.quick_cache_model.specs.CacheState.{CacheState}
use Rattle.quick_cache_locked.specs.Fitting.{ClonesFit, FitsQuery}
use Rattle.quick_cache_locked.specs.Peeks.{Miss, Peeks, PeeksIf}
use Rattle.quick_cache_expiring.specs.declared.lasting.Lasting.{Lasting}
use Rattle.quick_cache_expiring.specs.Entries.{AnswersAt}
use Rattle.quick_cache_expiring.specs.Lastings.{ClonesLasting, lasting_of}
use Rattle.quick_cache_expiring.specs.Lives.{lives}

-- of what was found, what serves at the moment
abbrev pub serving : {V : Type 0} → (now : ℕ) → Option (Lasting V) → Option V
serving now None = None
serving now (Some lasting) = if lives lasting.until now then Some lasting.value else None

-- the same of a look that may be refused
abbrev pub serving_of : {V E : Type 0} → (now : ℕ) → Result (Option (Lasting V)) E
    → Result (Option V) E
serving_of now (Ok found) = Ok (serving now found)
serving_of now (Err error) = Err error

module _ {K V : Type 0} (stands_for : K → Bool) (is_clone : V → V → Type 0) where
  -- A look at a moment shows a clone of a value that is there with an end that is not reached. It
  -- shows none where what is there is over, or nothing is there. It is refused only where the clone
  -- failed of a value whose end is not reached.
  abbrev pub ShowsAt : (now : ℕ) → CacheState K (Lasting V) → Result (Option V) Refusal → Type 0
  ShowsAt now old (Ok (Some value)) = (until : ℕ)
      × PeeksIf stands_for (ClonesLasting is_clone) (AnswersAt now) old
      (Ok (Ok (lasting_of value until)))
  ShowsAt now old (Ok None) = (miss : Miss)
      × PeeksIf stands_for (ClonesLasting is_clone) (AnswersAt now) old (Ok (Err miss))
  ShowsAt now old (Err refusal) =
      PeeksIf stands_for (ClonesLasting is_clone) (AnswersAt now) old (Err refusal)

  -- A look that clones what is there, be it over or not, shows what serves of that. It is refused
  -- only where the clone failed.
  pub record ShowsServing (now : ℕ) (old : CacheState K (Lasting V))
      (answer : Result (Option V) Refusal) : Type 0 where
    pub found : Result (Option (Lasting V)) Refusal
    pub peeks : Peeks stands_for (ClonesLasting is_clone) old found
    pub serves : answer ≡ serving_of now found

  -- a look at the end shows that of what is there, or that nothing is
  abbrev pub ShowsEnd : CacheState K (Lasting V) → Result (Option ℕ) Refusal → Type 0
  ShowsEnd old (Ok (Some until)) = (value : V)
      × Peeks stands_for (ClonesLasting is_clone) old (Ok (Some (lasting_of value until)))
  ShowsEnd old (Ok None) = Peeks stands_for (ClonesLasting is_clone) old (Ok None)
  ShowsEnd old (Err refusal) = Peeks stands_for (ClonesLasting is_clone) old (Err refusal)

module _ {K V : Type 0} (fits : K → Lasting V → Type 0) (stands_for : K → Bool) where
  -- with an end that is not reached at the moment, the value fits a key that the query stands for
  pub record FitsAt (now : ℕ) (value : V) : Type 0 where
    pub until : ℕ
    pub lives_then : lives until now ≡ true
    pub fits_query : FitsQuery fits stands_for (lasting_of value until)

  -- where clones fit as their values do, what is shown fits so
  abbrev pub ShowsFittingAt : {E : Type 0} → (is_clone : V → V → Type 0) → (now : ℕ)
      → Result (Option V) E → Type 0
  ShowsFittingAt is_clone now answer = ClonesFit fits (ClonesLasting is_clone)
      → IfOk answer (λ found. IfSome found (FitsAt now))
