-- The entry that a slot and what stands beside it store. No public clause cites this module.
use Rattle.std.specs.Prelude.{ℕ, ◌+◌, min, Bool, false, if◌then◌else◌, ◌==◌}
use Rattle.quick_cache_model.specs.CacheState.{Item}
use Rattle.quick_cache_store.specs.declared.slots.aside.Aside.{Aside}
use Rattle.quick_cache_store.specs.declared.slots.beside.Beside.{Beside}
use Rattle.quick_cache_store.specs.declared.slots.entry.Entry.{Entry}
use Rattle.quick_cache_store.specs.declared.slots.entry.Slot.{Slot}
use Rattle.quick_cache_store.specs.declared.slots.resident.Resident.{Resident}
use Rattle.quick_cache_store.specs.declared.slots.stored.Body.{Body}
use Rattle.quick_cache_store.specs.declared.slots.stored.Head.{Head}
use Rattle.quick_cache_store.specs.declared.slots.stored.StoredEntry.{StoredEntry}

-- the weight that stands so in a slot: the greatest number that fits there stands for the weight
-- beside it
abbrev pub weight_by : (small : ℕ) → Aside → ℕ
weight_by small aside = if small == 65535 then aside.weight else small

-- all reads, where the slot counts so many of them
abbrev pub reads_by : (late : ℕ) → Aside → ℕ
reads_by late aside = min (aside.reads + late) 18446744073709551615

-- the item that is stored so, without its mark
abbrev pub resident_of : {K V T : Type 0} → Head → Body K V T → Aside → Resident K V T
resident_of head body aside = record {
  queue = head.queue;
  weight = weight_by head.weight aside;
  reads = reads_by head.late aside;
  body = body;
}

-- the item that is stored so
abbrev pub item_of_body : {K V T : Type 0} → Head → Body K V T → Beside → Item K V
item_of_body head body beside = record {
  key = body.key;
  value = body.value;
  weight = weight_by head.weight beside.aside;
  mark = beside.mark;
  reads = reads_by head.late beside.aside;
  queue = head.queue;
}

-- the entry that is stored so
abbrev pub entry_of : {K V P T : Type 0} → StoredEntry K V P T → Beside → Entry K V P T
entry_of (StoredEntry.Item head body) beside = Entry.Item (item_of_body head body beside)
entry_of (StoredEntry.Loading queue key placeholder) beside =
    Entry.Loading (record { key = key; queue = queue; placeholder = placeholder })
entry_of (StoredEntry.Ghost note) beside = Entry.Ghost

-- the slot that is stored so
abbrev pub slot_of : {K V P T : Type 0} → StoredEntry K V P T → Beside → Slot K V P T
slot_of stored beside = record { entry = entry_of stored beside; hash = beside.aside.hash }

-- the stored entry with another value, if it is an item
abbrev pub entry_with_value : {K V P T : Type 0} → (value : V) → StoredEntry K V P T
    → StoredEntry K V P T
entry_with_value value (StoredEntry.Item head body) =
    StoredEntry.Item head (record body { value = value })
entry_with_value value (StoredEntry.Loading queue key placeholder) =
    StoredEntry.Loading queue key placeholder
entry_with_value value (StoredEntry.Ghost note) = StoredEntry.Ghost note

-- an item is stored whose slot can count no more reads
abbrev pub is_counted_out : {K V P T : Type 0} → StoredEntry K V P T → Bool
is_counted_out (StoredEntry.Item head body) = head.late == 65535
is_counted_out (StoredEntry.Loading queue key placeholder) = false
is_counted_out (StoredEntry.Ghost note) = false

-- an item is stored
abbrev pub IsItem : {K V P T : Type 0} → StoredEntry K V P T → Type 0
IsItem (StoredEntry.Item head body) = Unit {0}
IsItem (StoredEntry.Loading queue key placeholder) = ⊥
IsItem (StoredEntry.Ghost note) = ⊥

-- a ghost is stored, of which the slot itself has nothing
abbrev pub IsBare : {K V P T : Type 0} → StoredEntry K V P T → Type 0
IsBare (StoredEntry.Item head body) = ⊥
IsBare (StoredEntry.Loading queue key placeholder) = ⊥
IsBare (StoredEntry.Ghost note) = Unit {0}

-- the number that a ghost has noted, or one that no place in a list has
abbrev pub note_of : {K V P T : Type 0} → StoredEntry K V P T → ℕ
note_of (StoredEntry.Item head body) = 4294967295
note_of (StoredEntry.Loading queue key placeholder) = 4294967295
note_of (StoredEntry.Ghost note) = note

-- a key that is being loaded is stored
abbrev pub IsAwaited : {K V P T : Type 0} → StoredEntry K V P T → Type 0
IsAwaited (StoredEntry.Item head body) = ⊥
IsAwaited (StoredEntry.Loading queue key placeholder) = Unit {0}
IsAwaited (StoredEntry.Ghost note) = ⊥

-- the stored entry, or the item of its key if it is a key that is being loaded
abbrev pub entry_filled_by : {K V P T : Type 0} → Head → V → T → StoredEntry K V P T
    → StoredEntry K V P T
entry_filled_by head value touch (StoredEntry.Item old body) = StoredEntry.Item old body
entry_filled_by head value touch (StoredEntry.Loading queue key placeholder) =
    StoredEntry.Item head (record { touch = touch; key = key; value = value })
entry_filled_by head value touch (StoredEntry.Ghost note) = StoredEntry.Ghost note
