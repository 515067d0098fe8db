-- Entries that are renewed where they live.
use Rattle.std.proofs.Common.{ℕ, Bool, true, Result, Ok, Err, refl, sym, subst}
use Rattle.quick_cache_model.specs.declared.refusal.Refusal.{Refusal}
use Rattle.quick_cache_locked.specs.Changes.{LeavesFitting, TellsOf}
use Rattle.quick_cache_locked.specs.Fitting.{ClonesFit}
use Rattle.quick_cache_expiring.specs.declared.lasting.Lasting.{Lasting}
use Rattle.quick_cache_expiring.specs.Entries.{AnswersAt}
use Rattle.quick_cache_expiring.specs.Lastings.{ClonesLasting, lasting_of}
use Rattle.quick_cache_expiring_sync.specs.Looks.{FitsAt}
use Rattle.quick_cache_expiring_sync.specs.Renewals.{HasLived, RenewedFits, Renews, RenewsClone}

module _ {K V : Type 0} (fits : K → Lasting V → Type 0) (test : K → Bool) (now : ℕ)
    (answers : Lasting V → Bool → Type 0)
    (says : (lasting : Lasting V) (said : Bool) → answers lasting said → AnswersAt now lasting said)
  where
    -- what was renewed lived
    pub HasLived-told : {T : Type 0} (leaves : Lasting V → T → Lasting V → Type 0) (told : T)
        → TellsOf leaves test answers fits told → HasLived fits test now
    HasLived-told leaves told tells = record {
      was = tells.value;
      lived = sym (says tells.value true tells.passed);
      fits_query = record {
        key = tells.key;
        stands = tells.stands;
        fits_key = tells.fits_key;
      };
    }

    module _ (until : ℕ) (renewed : RenewedFits fits now until) where
      -- and with its new end it fits
      pub Renews-fitting : (leaves : Lasting V → Unit {0} → Lasting V → Type 0)
          → ((value : Lasting V) (told : Unit {0}) (left : Lasting V) → leaves value told left
          → Renews until value told left) → LeavesFitting leaves test answers fits
      Renews-fitting leaves renews = λ key value told left stands fit passed did.
          subst (fits key) (sym (renews value told left did))
          (renewed key value (sym (says value true passed)) fit)

      pub RenewsClone-fitting : (is_clone : V → V → Type 0)
          (leaves : Lasting V → Result V Refusal → Lasting V → Type 0)
          → ((value : Lasting V) (told : Result V Refusal) (left : Lasting V)
          → leaves value told left → RenewsClone is_clone until value told left)
          → LeavesFitting leaves test answers fits
      RenewsClone-fitting is_clone leaves renews = λ key value told left stands fit passed did.
          go key value told left fit passed (renews value told left did)
        where
          go : (key : K) (value : Lasting V) (told : Result V Refusal) (left : Lasting V)
              → fits key value → answers value true → RenewsClone is_clone until value told left
              → fits key left
          go key value (Ok clone) left fit passed did = subst (fits key) (sym did.1)
              (renewed key value (sym (says value true passed)) fit)
          go key value (Err refusal) left fit passed did = subst (fits key) (sym did.1) fit

    -- a clone of it fits with the end that it had
    pub FitsAt-renewed : (until : ℕ) (is_clone : V → V → Type 0)
        (leaves : Lasting V → Result V Refusal → Lasting V → Type 0)
        → ((value : Lasting V) (told : Result V Refusal) (left : Lasting V)
        → leaves value told left → RenewsClone is_clone until value told left)
        → ClonesFit fits (ClonesLasting is_clone) → (clone : V)
        → TellsOf leaves test answers fits (Ok clone) → FitsAt fits test now clone
    FitsAt-renewed until is_clone leaves renews clones clone tells = record {
      until = tells.value.until;
      lives_then = sym (says tells.value true tells.passed);
      fits_query = record {
        key = tells.key;
        stands = tells.stands;
        fits_key = clones tells.key tells.value (lasting_of clone tells.value.until)
            ((renews tells.value (Ok clone) tells.left tells.changed).0, refl) tells.fits_key;
      };
    }
