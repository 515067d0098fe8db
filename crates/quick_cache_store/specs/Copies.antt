-- Copies of what slots have: clones stand in for keys and values.
use Rattle.std.specs.Prelude.{◌≡◌, ℕ, List, [], ◌∷◌, Option, Some, None}
use Rattle.quick_cache_model.specs.CacheState.{Item}
use Rattle.quick_cache_store.specs.declared.slots.beside.Beside.{Beside}
use Rattle.quick_cache_store.specs.declared.slots.entry.Awaited.{Awaited}
use Rattle.quick_cache_store.specs.declared.slots.entry.Entry.{Entry}
use Rattle.quick_cache_store.specs.declared.slots.entry.Slot.{Slot}
use Rattle.quick_cache_store.specs.declared.slots.stored.StoredEntry.{StoredEntry}

module _ {K V : Type 0} (clones_key : K → K → Type 0) (clones_value : V → V → Type 0) where
  -- the item, with clones for its key and its value
  pub record IsItemCopy (item copy : Item K V) : Type 0 where
    pub key : clones_key item.key copy.key
    pub value : clones_value item.value copy.value
    pub same : copy ≡ record item { key = copy.key; value = copy.value }

-- the key that is being loaded, with a clone for the key, and a placeholder that stands in
pub record IsAwaitedCopy {K P : Type 0} (clones_key : K → K → Type 0) (shares : P → P → Type 0)
    (awaited copy : Awaited K P) : Type 0 where
  pub key : clones_key awaited.key copy.key
  pub queue : copy.queue ≡ awaited.queue
  pub placeholder : shares awaited.placeholder copy.placeholder

module _ {K V P : Type 0} (clones_key : K → K → Type 0) (clones_value : V → V → Type 0)
    (hash_of : K → ℕ) (shares : P → P → Type 0) where
  -- a copy of the entry, where these are the hashes under which the two stand
  abbrev pub IsEntryCopy : {T : Type 0} → (hash copy_hash : ℕ) → (entry copy : Entry K V P T)
      → Type 0
  IsEntryCopy hash copy_hash (Entry.Item item) (Entry.Item copy) =
      (copy_hash ≡ hash_of copy.key) × IsItemCopy clones_key clones_value item copy
  IsEntryCopy hash copy_hash (Entry.Item item) (Entry.Loading copy) = ⊥
  IsEntryCopy hash copy_hash (Entry.Item item) Entry.Ghost = ⊥
  IsEntryCopy hash copy_hash (Entry.Loading awaited) (Entry.Item copy) = ⊥
  IsEntryCopy hash copy_hash (Entry.Loading awaited) (Entry.Loading copy) =
      (copy_hash ≡ hash_of copy.key) × IsAwaitedCopy clones_key shares awaited copy
  IsEntryCopy hash copy_hash (Entry.Loading awaited) Entry.Ghost = ⊥
  IsEntryCopy hash copy_hash Entry.Ghost (Entry.Item copy) = ⊥
  IsEntryCopy hash copy_hash Entry.Ghost (Entry.Loading copy) = ⊥
  IsEntryCopy hash copy_hash Entry.Ghost Entry.Ghost = copy_hash ≡ hash

  -- a copy of what stands in the slot
  abbrev pub IsSlotCopy : {T : Type 0} → (slot copy : Slot K V P T) → Type 0
  IsSlotCopy slot copy = IsEntryCopy slot.hash copy.hash slot.entry copy.entry

-- ---- in the slots: no public clause cites what follows

module _ {K V P : Type 0} (clones_key : K → K → Type 0) (clones_value : V → V → Type 0)
    (shares : P → P → Type 0) where
  -- a copy of what a slot stores
  abbrev pub IsStoredCopy : {T : Type 0} → (stored copy : StoredEntry K V P T) → Type 0
  IsStoredCopy (StoredEntry.Item head body) (StoredEntry.Item copied copy) =
      (copied ≡ head) × clones_key body.key copy.key × clones_value body.value copy.value
  IsStoredCopy (StoredEntry.Item head body) (StoredEntry.Loading queue key placeholder) = ⊥
  IsStoredCopy (StoredEntry.Item head body) (StoredEntry.Ghost note) = ⊥
  IsStoredCopy (StoredEntry.Loading queue key placeholder) (StoredEntry.Item head body) = ⊥
  IsStoredCopy (StoredEntry.Loading queue key placeholder)
      (StoredEntry.Loading copied copy stand_in) =
      (copied ≡ queue) × clones_key key copy × shares placeholder stand_in
  IsStoredCopy (StoredEntry.Loading queue key placeholder) (StoredEntry.Ghost note) = ⊥
  IsStoredCopy (StoredEntry.Ghost note) (StoredEntry.Item head body) = ⊥
  IsStoredCopy (StoredEntry.Ghost note) (StoredEntry.Loading queue key placeholder) = ⊥
  IsStoredCopy (StoredEntry.Ghost note) (StoredEntry.Ghost copied) = Unit {0}

module _ {K V P T : Type 0} (hash_of : K → ℕ) where
  -- what stands beside the copy of an entry: the hash of its key, or that of a ghost
  abbrev pub aside_copy : (copy : StoredEntry K V P T) → Beside → Beside
  aside_copy (StoredEntry.Item head body) beside =
      record beside { aside = record beside.aside { hash = hash_of body.key } }
  aside_copy (StoredEntry.Loading queue key placeholder) beside =
      record beside { aside = record beside.aside { hash = hash_of key } }
  aside_copy (StoredEntry.Ghost note) aside = aside

  -- what stands beside a slot of a copy
  abbrev pub aside_for : Option (StoredEntry K V P T) → Beside → Beside
  aside_for None aside = aside
  aside_for (Some copy) aside = aside_copy copy aside

  -- what stands beside the slots of a copy
  abbrev pub aside_copies : (copies : List (Option (StoredEntry K V P T))) → List Beside → List Beside
  aside_copies [] asides = []
  aside_copies (copy ∷ copies) [] = []
  aside_copies (copy ∷ copies) (aside ∷ asides) = aside_for copy aside ∷ aside_copies copies asides
