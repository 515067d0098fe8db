-- What a callback told of an entry that ends.
use Rattle.std.proofs.Common.{◌≡◌, ℕ, Bool, Result, Ok, Err, refl, subst}
use denote.Ref.{Bor, MutBor}
use denote.Param.Members.{Once}
use Rattle.quick_cache_model.specs.declared.refusal.Refusal.{Refusal}
use Rattle.quick_cache_model.specs.declared.calls.entry.EntryAction.{EntryAction}
use Rattle.quick_cache_guard.specs.Acts.{LeavesOnce, MayTell}
use Rattle.quick_cache_locked.specs.Fitting.{ClonesFit}
use Rattle.quick_cache_expiring.specs.declared.lasting.Lasting.{Lasting}
use Rattle.quick_cache_expiring.specs.Lastings.{ClonesLasting, lasting_of}
use Rattle.quick_cache_expiring_sync.specs.Looks.{FitsAt}
use Rattle.quick_cache_expiring_sync.specs.Loads.{ChoosesToLoad}

-- a clone that it told lives and fits with the end that it was shown
pub FitsAt-told : {F K V : Type 0}
    (calls : Once F (Bor K × (MutBor (Lasting V) × Unit {0}))
    (EntryAction (Result V Refusal) × (MutBor (Lasting V) × Unit {0})))
    (fits : K → Lasting V → Type 0) (test : K → Bool) (callback : F) (now : ℕ)
    (is_clone : V → V → Type 0) → ClonesFit fits (ClonesLasting is_clone)
    → (answer : Result V Refusal) (told : MayTell (LeavesOnce calls callback) fits test answer) (value : V)
    → ChoosesToLoad is_clone now told.called.shown.now (EntryAction.Retain answer)
    → answer ≡ Ok value
    → FitsAt fits test now value
FitsAt-told calls fits test callback now is_clone clones (Ok given) told value chosen is =
    let chosen_of : ChoosesToLoad is_clone now told.value (EntryAction.Retain (Ok given)) = subst
    (λ lasting. ChoosesToLoad is_clone now lasting (EntryAction.Retain (Ok given)))
    told.called.shows.1 chosen in
    let same : given ≡ value = cc in
    subst (FitsAt fits test now) same
    (record {
      until = told.value.until;
      lives_then = chosen_of.0;
      fits_query = record {
        key = told.key;
        stands = told.stands;
        fits_key = clones told.key told.value (lasting_of given told.value.until)
            (chosen_of.1, refl) told.fits_key;
      };
    })
FitsAt-told calls fits test callback now is_clone clones (Err refusal) told value chosen is =
    let never : Err refusal ≡ Ok value = is in absurd cc
