-- What a walk over the slots has yet to come to. No public clause cites this module.
use Rattle.std.specs.Prelude.{ℕ, ◌<◌, ◌≤◌, List, length, map}
use Rattle.std.specs.List.{AllByRecursion}
use Rattle.quick_cache_store.specs.Pool.{at_token}
use Rattle.quick_cache_store.specs.declared.slots.beside.Beside.{Beside}
use Rattle.quick_cache_store.specs.declared.slots.entry.Slot.{Slot}
use Rattle.quick_cache_store.specs.declared.slots.stored.StoredEntry.{StoredEntry}
use Rattle.quick_cache_store.specs.Stored.{slot_of}

-- nothing stands beside a slot
abbrev pub no_aside : Beside
no_aside = record { aside = record { hash = 0; weight = 0; reads = 0 }; mark = 0 }

module _ {K V P T : Type 0} where
  -- the slot of an entry under its token, where these things stand beside the slots
  abbrev pub entry_beside : List Beside → ℕ × StoredEntry K V P T → ℕ × Slot K V P T
  entry_beside asides entry = (entry.0, slot_of entry.1 (at_token asides entry.0 no_aside))

  -- the slots of these
  abbrev pub entries_beside : List Beside → List (ℕ × StoredEntry K V P T) → List (ℕ × Slot K V P T)
  entries_beside asides entries = map (entry_beside asides) entries

  -- something stands beside each of these
  abbrev pub AreCovered : List Beside → List (ℕ × StoredEntry K V P T) → Type 0
  AreCovered asides entries =
      AllByRecursion (λ entry. (0 < entry.0) × (entry.0 ≤ length asides)) entries
