-- The pool and what stands beside its slots, as one pool of whole slots. No public clause cites this
-- module.
use Rattle.std.specs.Prelude.{◌≡◌, ℕ, min, List, [], ◌∷◌, length, Option, Some, None}
use Rattle.quick_cache_store.specs.Pool.{Pool}
use Rattle.quick_cache_store.specs.Asides.{besides_of, AreInStep}
use Rattle.quick_cache_store.specs.declared.slots.asides.Asides.{Asides}
use Rattle.quick_cache_store.specs.declared.slots.beside.Beside.{Beside}
use Rattle.quick_cache_store.specs.declared.slots.entry.Slot.{Slot}
use Rattle.quick_cache_store.specs.declared.slots.stored.StoredEntry.{StoredEntry}
use Rattle.quick_cache_store.specs.Stored.{slot_of}

module _ {K V P T : Type 0} where
  -- the slot of an entry, if there is one, and of what stands beside it
  abbrev pub joined_slot : Option (StoredEntry K V P T) → Beside → Option (Slot K V P T)
  joined_slot None aside = None
  joined_slot (Some stored) aside = Some (slot_of stored aside)

  -- the slots of these, one by one
  abbrev pub joined_slots : List (Option (StoredEntry K V P T)) → List Beside
      → List (Option (Slot K V P T))
  joined_slots [] asides = []
  joined_slots (stored ∷ rest) [] = []
  joined_slots (stored ∷ rest) (aside ∷ asides) = joined_slot stored aside ∷ joined_slots rest asides

  -- the pool of whole slots, where so many more may come to the list beside it
  abbrev pub joined : Pool (StoredEntry K V P T) → List Beside → (left : ℕ)
      → Pool (Slot K V P T)
  joined pool asides left = record {
    slots = joined_slots pool.slots asides;
    free = pool.free;
    room = min pool.room left;
  }

  -- something stands beside each slot
  abbrev pub AreBeside : Pool (StoredEntry K V P T) → List Beside → Type 0
  AreBeside pool asides = length asides ≡ length pool.slots

  -- so it is, and in two lists that are as long
  pub record AreAllBeside {A : Type 0} (pool : Pool (StoredEntry K V P T)) (asides : Asides A)
      : Type 0 where
    pub in_step : AreInStep asides
    pub beside : AreBeside pool (besides_of asides)
