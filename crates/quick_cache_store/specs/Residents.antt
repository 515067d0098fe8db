-- An item as its slot has it. No public clause cites this module.
use Rattle.std.specs.Prelude.{ℕ}
use Rattle.quick_cache_model.specs.CacheState.{Item}
use Rattle.quick_cache_store.specs.declared.slots.resident.Resident.{Resident}

-- the item that it is with that mark
abbrev pub marked_item : {K V T : Type 0} → (mark : ℕ) → Resident K V T → Item K V
marked_item mark resident = record {
  key = resident.body.key;
  value = resident.body.value;
  weight = resident.weight;
  mark = mark;
  reads = resident.reads;
  queue = resident.queue;
}
