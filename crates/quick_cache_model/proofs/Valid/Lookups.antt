-- Laws of look-ups, of removals and of the entry call: each leads from a valid state to a valid
-- one.
use Rattle.std.proofs.Common.{◌≡◌, ℕ, ◌≤◌, Bool, true, List, ◌∷◌, ◌++◌, Option, refl, sym, subst, ◌∙◌, arith}
use Rattle.std.specs.Cmp.{IsEquivalence}
use Rattle.quick_cache_model.specs.CacheState.{CacheState, Item, Place, InHot, InCold, InStill, items_at, with_items, IsValid}
use Rattle.quick_cache_model.specs.Hooks.{Rules}
use Rattle.quick_cache_model.specs.Lookups.{looked_up, after_hit, LooksUp}
use Rattle.quick_cache_model.specs.Removal.{Removes, RemovesIf, Retains, Drains, weighed, reweighed}
use Rattle.quick_cache_model.specs.Entries.{EntryChoice, EntryOutcome, ActsOnEntry}
use Rattle.quick_cache_model.proofs.Valid.Places.{keys_by-without, IsInPlace-marked}
use Rattle.quick_cache_model.proofs.Valid.States.{IsValid-in_place}
use Rattle.quick_cache_model.proofs.Valid.Edits.{after_hit-valid, after_miss-valid, instead-valid, without-valid, without_ghost-valid}
use Rattle.quick_cache_model.proofs.Valid.Edits.{unloaded-valid, retained-valid, cleared-valid, rewritten-valid, with_placeholder-valid}
use Rattle.quick_cache_model.proofs.Valid.Edits.{keys_by-taken}

module _ {K V : Type 0} (equal : K → K → Bool) where
  -- a counted hit leaves the items as they are
  pub items_at-after_hit : (place : Place) (state : CacheState K V)
      → items_at place (after_hit state) ≡ items_at place state
  items_at-after_hit InHot state = refl
  items_at-after_hit InCold state = refl
  items_at-after_hit InStill state = refl

  -- a look-up
  pub LooksUp-valid : {X : Type 0} (stands_for : K → Bool) (of : Item K V → X)
      (old new : CacheState K V) (shown : Option X)
      → LooksUp stands_for old of shown new → IsValid equal old → IsValid equal new
  LooksUp-valid stands_for of old _ _ (LooksUp.hit place before item after there) valid =
      instead-valid equal place before item (looked_up old.mark_cut item) after (after_hit old)
      (items_at-after_hit place old ∙ there.split) refl refl refl (omega arith)
      (after_hit-valid equal old valid)
  LooksUp-valid stands_for of old _ _ (LooksUp.miss none) valid = after_miss-valid equal old valid

  -- a removal
  pub Removes-valid : (stands_for : K → Bool) (hash : ℕ) (old new : CacheState K V)
      (answer : Option (K × V))
      → Removes stands_for old hash answer new → IsValid equal old → IsValid equal new
  Removes-valid stands_for hash old _ _ (Removes.of_item place before item after there) valid =
      without-valid equal place before item after old there.split valid
  Removes-valid stands_for hash old _ _ (Removes.of_loading before entry after there) valid =
      unloaded-valid equal before entry after old there.split valid
  Removes-valid stands_for hash old _ _ (Removes.of_ghost before after there) valid =
      without_ghost-valid equal before hash after old there.split valid
  Removes-valid stands_for hash old _ _ (Removes.of_nothing nothing) valid = valid

  -- a removal by a test
  pub RemovesIf-valid : (stands_for : K → Bool) (passes : V → Bool) (old new : CacheState K V)
      (answer : Option (K × V))
      → RemovesIf stands_for old passes answer new → IsValid equal old → IsValid equal new
  RemovesIf-valid stands_for passes old _ _ (RemovesIf.goes place before item after there passed)
      valid = without-valid equal place before item after old there.split valid
  RemovesIf-valid stands_for passes old _ _ (RemovesIf.stays place before item after there failed)
      valid = valid
  RemovesIf-valid stands_for passes old _ _ (RemovesIf.absent none) valid = valid

  -- what a test keeps
  pub Retains-valid : (keeps : K → V → Bool) (old new : CacheState K V) → Retains keeps old new
      → IsValid equal old → IsValid equal new
  Retains-valid keeps old new retains valid =
      subst (λ (s : CacheState K V). IsValid equal s) (sym retains)
      (retained-valid equal keeps old valid)

  -- a drain
  pub Drains-valid : (old new : CacheState K V) (pairs : List (K × V)) → Drains old pairs new
      → IsValid equal new
  Drains-valid old new pairs drains = subst (λ (s : CacheState K V). IsValid equal s) (sym drains.1)
      (cleared-valid equal old)

  module _ (laws : IsEquivalence equal) (rules : Rules K V) where
    -- an item that is weighed anew
    pub reweighed-valid : (place : Place) (before : List (Item K V)) (was now : Item K V)
        (after : List (Item K V)) (left : V) (old : CacheState K V)
        → items_at place old ≡ before ++ was ∷ after → now.key ≡ was.key → now.queue ≡ was.queue
        → now.mark ≤ old.mark_cut
        → IsValid equal old → IsValid equal (reweighed rules place before now after left old)
    reweighed-valid place before was now after left old split key queue marked valid =
        rewritten-valid equal laws place before was (weighed rules now left) after old split
        (subst (λ k. equal now.key k ≡ true) key (laws.refl now.key)) queue marked valid

    -- the entry call
    pub ActsOnEntry-valid : (stands_for : K → Bool) (old : CacheState K V) (item : Item K V)
        (left : V) (choice : EntryChoice) (outcome : EntryOutcome) (new : CacheState K V)
        → ActsOnEntry rules stands_for old item left choice outcome new → IsValid equal old
        → IsValid equal new
    ActsOnEntry-valid stands_for old item left _ _ _ (ActsOnEntry.kept place before after there)
        valid =
        after_hit-valid equal (reweighed rules place before
        (looked_up old.mark_cut item) after left old)
        (reweighed-valid place before item
        (looked_up old.mark_cut item) after left old there.split refl refl
        (omega arith) valid)
    ActsOnEntry-valid stands_for old item left _ _ _
        (ActsOnEntry.removed place before after now front back there written) valid =
        without-valid equal now front (weighed rules item left) back
        (reweighed rules place before item after left old) written.split
        (reweighed-valid place before item item after left old there.split refl refl
        (IsInPlace-marked place before item after old there.split
        (IsValid-in_place equal old valid)) valid)
    ActsOnEntry-valid stands_for old item left _ _ _
        (ActsOnEntry.replaced place before after now front back there written provided) valid =
        let mid = reweighed rules place before item after left old in
        let mid_valid = reweighed-valid place before item item after left old there.split refl refl
        (IsInPlace-marked place before item after old there.split
        (IsValid-in_place equal old valid)) valid
        in
        with_placeholder-valid equal laws item.key item.queue (with_items now (front ++ back) mid)
        (keys_by-taken equal laws item.key mid (with_items now (front ++ back) mid) item.key
        (laws.refl item.key)
        (keys_by-without (equal item.key) now front (weighed rules item left)
        back mid written.split) mid_valid)
        (without-valid equal now front (weighed rules item left) back mid written.split mid_valid)
    ActsOnEntry-valid stands_for old item left _ _ _
        (ActsOnEntry.refused place before after refusal there may)
        valid =
        reweighed-valid place before item item after left old there.split refl refl
        (IsInPlace-marked place before item after old there.split
        (IsValid-in_place equal old valid)) valid
