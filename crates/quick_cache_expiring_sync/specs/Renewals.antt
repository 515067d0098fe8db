-- Entries that are given a new end, beside other threads.
use Rattle.std.specs.Prelude.{◌≡◌, ℕ, Bool, true, false, Option, Some, None, Result, Ok, Err}
use Rattle.quick_cache_model.specs.declared.refusal.Refusal.{Refusal}
use Rattle.quick_cache_model.specs.CacheState.{CacheState}
use Rattle.quick_cache_model.specs.Hooks.{Rules}
use Rattle.quick_cache_locked.specs.Fitting.{FitsQuery}
use Rattle.quick_cache_sync.specs.Answers.{ChangesOrTakesSo}
use Rattle.quick_cache_expiring.specs.declared.lasting.Lasting.{Lasting}
use Rattle.quick_cache_expiring.specs.Entries.{AnswersAt}
use Rattle.quick_cache_expiring.specs.Lastings.{lasting_of}
use Rattle.quick_cache_expiring.specs.Lives.{lives}

module _ {K V : Type 0} (fits : K → Lasting V → Type 0) where
  -- what fits a key and lives fits it with the new end, too
  abbrev pub RenewedFits : (now until : ℕ) → Type 0
  RenewedFits now until = (key : K) (lasting : Lasting V) → lives lasting.until now ≡ true
      → fits key lasting → fits key (lasting_of lasting.value until)

  -- a value stood under a key that the query stands for, fitted it, and lived
  pub record HasLived (stands_for : K → Bool) (now : ℕ) : Type 0 where
    pub was : Lasting V
    pub lived : lives was.until now ≡ true
    pub fits_query : FitsQuery fits stands_for was

module _ {V : Type 0} where
  -- the value has the new end
  abbrev pub Renews : (until : ℕ) → Lasting V → (told : Unit {0}) → Lasting V → Type 0
  Renews until old told new = new ≡ lasting_of old.value until

  -- so it has, and a clone of it is told; or there was no memory for one, and it keeps its end
  abbrev pub RenewsClone : (V → V → Type 0) → (until : ℕ) → Lasting V → Result V Refusal → Lasting V
      → Type 0
  RenewsClone is_clone until old (Ok value) new =
      is_clone old.value value × (new ≡ lasting_of old.value until)
  RenewsClone is_clone until old (Err refusal) new = (refusal ≡ Refusal.Memory) × (new ≡ old)

module _ {K V : Type 0} (stands_for : K → Bool) (now until : ℕ) (rules : Rules K (Lasting V))
    (old : CacheState K (Lasting V)) where
  -- an entry that serves was looked up and renewed in one step, or one that is over was taken out
  abbrev pub Touches : Bool → Type 0
  Touches true = ChangesOrTakesSo (Renews until) stands_for (AnswersAt now) rules old (Ok tt)
  Touches false = (taken : Option (K × Lasting V))
      × ChangesOrTakesSo (Renews until) stands_for (AnswersAt now) rules old (Err taken)

  -- the same, of which a clone is given of what was renewed
  abbrev pub GetsAndTouches : (V → V → Type 0) → Result (Option V) Refusal → Type 0
  GetsAndTouches is_clone (Ok (Some value)) =
      ChangesOrTakesSo (RenewsClone is_clone until) stands_for (AnswersAt now) rules old
      (Ok (Ok value))
  GetsAndTouches is_clone (Ok None) = (taken : Option (K × Lasting V))
      × ChangesOrTakesSo (RenewsClone is_clone until) stands_for (AnswersAt now) rules old
      (Err taken)
  GetsAndTouches is_clone (Err refusal) =
      ChangesOrTakesSo (RenewsClone is_clone until) stands_for (AnswersAt now) rules old
      (Ok (Err refusal))
