-- What a slot ends as, once a reference to its value has ended. This module alone names the rows of
-- the types of this crate.
use Rattle.std.specs.Prelude.{◌≡◌, ℕ}
use Rattle.std.specs.Borrow.{Fml, RattleType, MutBor, Lends}
use Rattle.std.specs.declared.alloc.Allocator.{Ghosts}
use Rattle.quick_cache_store.specs.Pool.{Pool}
use Rattle.quick_cache_store.specs.declared.slots.entry.Entry.{Entry}
use Rattle.quick_cache_store.specs.declared.slots.entry.Slot.{Slot}
use Rattle.quick_cache_store.specs.declared.slots.stored.Body.{Body}
use Rattle.quick_cache_store.specs.declared.slots.stored.StoredEntry.{StoredEntry}
use Rattle.quick_cache_store.specs.Items.{with_value}
use Rattle.quick_cache_store.specs.Slots.{slot_changed}
use Rattle.quick_cache_store.specs.Stored.{entry_with_value}
use Rattle.quick_cache_store.specs.Writes.{changed_at}
use Rattle.quick_cache_store.specs.contracts.slots.stored.Body as body
use Rattle.quick_cache_store.specs.contracts.slots.stored.StoredEntry as entry
use Rattle.quick_cache_store.specs.contracts.slots.slots.Slots as slots

-- the value is that of an item
abbrev pub IsValueOf : {K V P T : Type 0} → Entry K V P T → V → Type 0
IsValueOf (Entry.Item item) value = value ≡ item.value
IsValueOf (Entry.Loading awaited) value = ⊥
IsValueOf Entry.Ghost value = ⊥

-- the value is that of an item that is stored
abbrev pub IsStoredValue : {K V P T : Type 0} → StoredEntry K V P T → V → Type 0
IsStoredValue (StoredEntry.Item head body) value = value ≡ body.value
IsStoredValue (StoredEntry.Loading queue key placeholder) value = ⊥
IsStoredValue (StoredEntry.Ghost note) value = ⊥

module _ (K V T : RattleType) where
  -- the item ends with the last value written
  abbrev pub lends_body_value : MutBor (Body K.Denot V.Denot T.Denot) → MutBor V.Denot → Fml
  lends_body_value held r =
      Lends (body.the_row K V T) V held r (λ value. record held.now { value = value })

module _ (K V P T : RattleType) where
  -- the entry ends with the last value written
  abbrev pub lends_entry_value : MutBor (StoredEntry K.Denot V.Denot P.Denot T.Denot)
      → MutBor V.Denot → Fml
  lends_entry_value held r =
      Lends (entry.the_row K V P T) V held r (λ value. entry_with_value value held.now)

module _ (K V P T A : RattleType) (alloc : Ghosts A.Denot) where
  -- the slot of that token ends with the last value written
  abbrev pub lends_slot_value : MutBor (Pool (Slot K.Denot V.Denot P.Denot T.Denot)) → ℕ
      → MutBor V.Denot → Fml
  lends_slot_value held token r =
      Lends (slots.the_row K V P T A alloc) V held r
      (λ value. changed_at (slot_changed (with_value value)) token held.now)
