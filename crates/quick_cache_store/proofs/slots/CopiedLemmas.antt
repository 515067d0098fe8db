-- What stands beside the slots of a copy, and the copy as a pool of whole slots.
use Rattle.std.proofs.Common.{◌≡◌, ℕ, zero, suc, ◌+◌, ◌<◌, min, List, [], ◌∷◌, ◌++◌, length, drop, Option, Some, None, get_or, refl, sym}
use Rattle.std.proofs.Common.{ap, ◌∙◌, append_assoc, add-one, arith}
use Rattle.std.specs.List.{AllZip}
use Rattle.std.proofs.lemmas.List.{get_or_default}
use Rattle.quick_cache_store.specs.Pool.{Pool, AreItemCopies, at_token, IsSlotCopy as IsPlaceCopy}
use Rattle.quick_cache_store.specs.declared.slots.beside.Beside.{Beside}
use Rattle.quick_cache_store.specs.declared.slots.entry.Slot.{Slot}
use Rattle.quick_cache_store.specs.declared.slots.stored.StoredEntry.{StoredEntry}
use Rattle.quick_cache_store.specs.Copies.{IsSlotCopy, IsStoredCopy, aside_copy, aside_for, aside_copies}
use Rattle.quick_cache_store.specs.Joined.{joined_slot, joined_slots, joined, AreBeside}
use Rattle.quick_cache_store.specs.Stored.{slot_of, item_of_body}
use Rattle.quick_cache_store.specs.Walks.{no_aside}

-- what is read at a place is what stands there
pub beside-at : (asides : List Beside) (i : ℕ) (beside : Beside) → i < length asides
    → beside ≡ get_or asides i beside → beside ≡ get_or asides i no_aside
beside-at asides i beside within is = is ∙ get_or_default asides i beside no_aside within

module _ {K V P T : Type 0} where
  -- ---- what stands beside the slots of a copy, one by one

  module _ (hash_of : K → ℕ) where
    -- as many as the copy has slots
    pub length-aside_copies : (slots : List (Option (StoredEntry K V P T))) (asides : List Beside)
        → length asides ≡ length slots → length (aside_copies hash_of slots asides) ≡ length slots
    length-aside_copies [] asides beside = refl
    length-aside_copies (slot ∷ slots) [] beside = absurd (omega arith)
    length-aside_copies (slot ∷ slots) (aside ∷ asides) beside =
        let rest = length-aside_copies slots asides (omega arith) in omega arith

    -- the thing at a place is the first of those that are left there
    aside_copies-next : (slots : List (Option (StoredEntry K V P T))) (asides : List Beside) (i : ℕ)
        → length asides ≡ length slots → i < length asides
        → aside_copies hash_of (drop i slots) (drop i asides)
        ≡ aside_for hash_of (get_or slots i None) (get_or asides i no_aside)
        ∷ aside_copies hash_of (drop (suc i) slots) (drop (suc i) asides)
    aside_copies-next slots [] i beside within = absurd (omega arith)
    aside_copies-next [] (a ∷ asides) i beside within = absurd (omega arith)
    aside_copies-next (slot ∷ slots) (a ∷ asides) zero beside within = refl
    aside_copies-next (slot ∷ slots) (a ∷ asides) (suc i) beside within =
        aside_copies-next slots asides i (omega arith) (omega arith)

    -- what is pushed where a token has that entry
    pub aside-found : (o : Option (StoredEntry K V P T)) (entry : StoredEntry K V P T)
        (aside : Beside) → o ≡ Some entry → aside_copy hash_of entry aside ≡ aside_for hash_of o aside
    aside-found o entry aside is =
        ap (λ (o : Option (StoredEntry K V P T)). aside_for hash_of o aside) (sym is)

    -- the thing itself, where it has none
    pub aside-absent : (o : Option (StoredEntry K V P T)) (aside : Beside) → o ≡ None
        → aside ≡ aside_for hash_of o aside
    aside-absent o aside is =
        ap (λ (o : Option (StoredEntry K V P T)). aside_for hash_of o aside) (sym is)

    -- with one more pushed, one fewer is left
    pub copies-pushed : (slots : List (Option (StoredEntry K V P T))) (asides copies : List Beside)
        (i t : ℕ) (x : Beside) → length asides ≡ length slots → i < length asides → t ≡ i + 1
        → copies ++ aside_copies hash_of (drop i slots) (drop i asides)
        ≡ aside_copies hash_of slots asides
        → x ≡ aside_for hash_of (at_token slots t None) (get_or asides i no_aside)
        → (copies' : List Beside) → copies' ≡ copies ++ x ∷ []
        → copies' ++ aside_copies hash_of (drop (i + 1) slots) (drop (i + 1) asides)
        ≡ aside_copies hash_of slots asides
    copies-pushed slots asides copies i t x beside within place done is copies' pushed =
        let e : t ≡ suc i = omega arith in
        let here : x ≡ aside_for hash_of (get_or slots i None) (get_or asides i no_aside) =
        is ∙ ap (λ (n : ℕ). aside_for hash_of (at_token slots n None) (get_or asides i no_aside)) e in
        rw (pushed, here, append_assoc, add-one)
        (ap (λ xs. copies ++ xs) (sym (aside_copies-next slots asides i beside within)) ∙ done)

  -- ---- the copy as a pool of whole slots

  module _ (clones_key : K → K → Type 0) (clones_value : V → V → Type 0) (hash_of : K → ℕ)
      (shares : P → P → Type 0) where
    -- what is a copy of a stored entry, and of a slot
    abbrev stored_copy : StoredEntry K V P T → StoredEntry K V P T → Type 0
    stored_copy = IsStoredCopy clones_key clones_value shares

    abbrev whole_copy : Slot K V P T → Slot K V P T → Type 0
    whole_copy = IsSlotCopy clones_key clones_value hash_of shares

    -- the slot of a copied entry is a copy of the slot
    IsSlotCopy-stored : (stored copy : StoredEntry K V P T) (aside : Beside)
        → stored_copy stored copy
        → whole_copy (slot_of stored aside) (slot_of copy (aside_copy hash_of copy aside))
    IsSlotCopy-stored (StoredEntry.Item head body) (StoredEntry.Item copied copy) aside is = (
      refl,
      record {
        key = is.1;
        value = is.2;
        same = ap (λ h. item_of_body h copy aside) is.0;
      },
    )
    IsSlotCopy-stored (StoredEntry.Item head body) (StoredEntry.Loading queue key placeholder) aside
        is =
        absurd is
    IsSlotCopy-stored (StoredEntry.Item head body) (StoredEntry.Ghost note) aside is = absurd is
    IsSlotCopy-stored (StoredEntry.Loading queue key placeholder) (StoredEntry.Item head body) aside
        is =
        absurd is
    IsSlotCopy-stored (StoredEntry.Loading queue key placeholder)
        (StoredEntry.Loading copied copy stand_in) aside is =
        (refl, record { key = is.1; queue = is.0; placeholder = is.2 })
    IsSlotCopy-stored (StoredEntry.Loading queue key placeholder) (StoredEntry.Ghost note) aside
        is = absurd is
    IsSlotCopy-stored (StoredEntry.Ghost note) (StoredEntry.Item head body) aside is = absurd is
    IsSlotCopy-stored (StoredEntry.Ghost note) (StoredEntry.Loading queue key placeholder) aside
        is = absurd is
    IsSlotCopy-stored (StoredEntry.Ghost note) (StoredEntry.Ghost copied) aside is = refl

    -- so it is at each place
    slot-copied : (stored copy : Option (StoredEntry K V P T)) (aside : Beside)
        → IsPlaceCopy stored_copy stored copy
        → IsPlaceCopy whole_copy (joined_slot stored aside)
        (joined_slot copy (aside_for hash_of copy aside))
    slot-copied None None aside is = tt
    slot-copied None (Some copy) aside is = absurd is
    slot-copied (Some stored) None aside is = absurd is
    slot-copied (Some stored) (Some copy) aside is = IsSlotCopy-stored stored copy aside is

    -- and of all slots together
    slots-copied : (slots copies : List (Option (StoredEntry K V P T))) (asides : List Beside)
        → length asides ≡ length slots → AllZip (IsPlaceCopy stored_copy) slots copies
        → AllZip (IsPlaceCopy whole_copy) (joined_slots slots asides)
        (joined_slots copies (aside_copies hash_of copies asides))
    slots-copied [] [] asides beside copied = tt
    slots-copied [] (copy ∷ copies) asides beside copied = absurd copied
    slots-copied (slot ∷ slots) [] asides beside copied = absurd copied
    slots-copied (slot ∷ slots) (copy ∷ copies) [] beside copied = absurd (omega arith)
    slots-copied (slot ∷ slots) (copy ∷ copies) (aside ∷ asides) beside copied = (
      slot-copied slot copy aside copied.0,
      slots-copied slots copies asides (omega arith) copied.1,
    )

    -- copies are as many
    length-copied : (slots copies : List (Option (StoredEntry K V P T)))
        → AllZip (IsPlaceCopy stored_copy) slots copies → length copies ≡ length slots
    length-copied [] [] copied = refl
    length-copied [] (copy ∷ copies) copied = absurd copied
    length-copied (slot ∷ slots) [] copied = absurd copied
    length-copied (slot ∷ slots) (copy ∷ copies) copied =
        ap suc (length-copied slots copies copied.1)

    module _ (pool copy : Pool (StoredEntry K V P T)) (asides : List Beside)
        (beside : AreBeside pool asides) (copied : AreItemCopies stored_copy pool copy) where
      -- as many things stand beside the slots as the copy has slots
      pub beside-copied : length asides ≡ length copy.slots
      beside-copied = beside ∙ sym (length-copied pool.slots copy.slots copied.slots)

      -- and something stands beside each slot of the copy
      pub AreBeside-copied : (asides' : List Beside)
          → asides' ≡ aside_copies hash_of copy.slots asides → AreBeside copy asides'
      AreBeside-copied asides' is =
          ap length is ∙ length-aside_copies hash_of copy.slots asides beside-copied

      -- the whole slots of the copy are copies of the whole slots
      pub joined-copied : (left left' : ℕ) (asides' : List Beside)
          → asides' ≡ aside_copies hash_of copy.slots asides
          → AreItemCopies whole_copy (joined pool asides left) (joined copy asides' left')
      joined-copied left left' asides' is = rw is (record {
        slots = slots-copied pool.slots copy.slots asides beside copied.slots;
        same = λ i. record {
          slots = joined_slots copy.slots (aside_copies hash_of copy.slots asides);
          free = (copied.same i).free;
          room = min copy.room left';
        };
      })
