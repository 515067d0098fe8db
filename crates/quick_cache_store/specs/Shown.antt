-- A call that shows an item to a callback of the caller's, which may write its value.
use Rattle.std.specs.Prelude.{◌≡◌, ℕ, Some}
use denote.Ref.{Bor, MutBor}
use denote.Param.Members.{Mut}
use Rattle.quick_cache_model.specs.CacheState.{Item}
use Rattle.quick_cache_model.specs.Callbacks.{Leaves}
use Rattle.quick_cache_store.specs.Pool.{Pool, item_at}
use Rattle.quick_cache_store.specs.declared.slots.entry.Entry.{Entry}
use Rattle.quick_cache_store.specs.declared.slots.entry.Slot.{Slot}
use Rattle.quick_cache_store.specs.declared.slots.stored.StoredEntry.{StoredEntry}
use Rattle.quick_cache_store.specs.Items.{with_value}
use Rattle.quick_cache_store.specs.Slots.{slot_changed}
use Rattle.quick_cache_store.specs.Stored.{entry_with_value}
use Rattle.quick_cache_store.specs.Writes.{Writes}

-- an item is stored, of whose key and value this holds
abbrev pub HoldsOfItem : {K V P T : Type 0} → StoredEntry K V P T → (K → V → Type 0) → Type 0
HoldsOfItem (StoredEntry.Item head body) Q = Q body.key body.value
HoldsOfItem (StoredEntry.Loading queue key placeholder) Q = ⊥
HoldsOfItem (StoredEntry.Ghost note) Q = ⊥

module _ {F K V R : Type 0}
    (calls : Mut F (Bor K × (MutBor V × Unit {0})) (R × (MutBor V × Unit {0}))) where
  -- the callback, as it is now, may be called at references to this pair
  abbrev pub MayBeShown : F → K → V → Type 0
  MayBeShown callback key value = (shown_key : Bor K) (shown : MutBor V) → shown_key.now ≡ key
      → shown.now ≡ value → calls.pre callback (shown_key, (shown, tt))

  -- so it may at the item of the token
  abbrev pub MayBeShownSlot : {P T : Type 0} → F → Pool (Slot K V P T) → ℕ → Type 0
  MayBeShownSlot callback pool token = (hash : ℕ) (item : Item K V)
      → item_at pool token ≡ Some (record { hash = hash; entry = Entry.Item item })
      → MayBeShown callback item.key item.value

  -- the item that is stored was shown, and has the value that was left
  pub record ShowsStored {P T : Type 0} (callback : F) (old : StoredEntry K V P T) (answer : R)
      (next : F) (new : StoredEntry K V P T) : Type 0 where
    pub left : V
    pub called : HoldsOfItem old (λ key value. Leaves calls callback key value answer next left)
    pub rest : new ≡ entry_with_value left old

  -- so was the item of the token
  pub record ShowsSlot {P T : Type 0} (callback : F) (old : Pool (Slot K V P T)) (token : ℕ)
      (answer : R) (next : F) (new : Pool (Slot K V P T)) : Type 0 where
    pub hash : ℕ
    pub item : Item K V
    pub at : item_at old token ≡ Some (record { hash = hash; entry = Entry.Item item })
    pub left : V
    pub called : Leaves calls callback item.key item.value answer next left
    pub writes : Writes old new token (slot_changed (with_value left))
