-- What a walk along a ring has yet to come to. No public clause cites this module.
use Rattle.std.specs.Prelude.{◌≡◌, ℕ, List, length, filter_map, map}
use Rattle.quick_cache_store.specs.Pool.{Pool, item_at}
use Rattle.quick_cache_model.specs.CacheState.{Item}
pub use Rattle.quick_cache_store.specs.Slots.{entry_item}
use Rattle.quick_cache_store.specs.declared.slots.entry.Slot.{Slot}
use Rattle.quick_cache_store.specs.Sound.{gather}

-- the slots of these tokens
abbrev pub walk_of : {S : Type 0} → Pool S → List ℕ → List S
walk_of slab tokens = gather (λ token. item_at slab token) tokens

-- so many tokens are left, and each has a slot
pub record IsWalk {S : Type 0} (slab : Pool S) (tokens : List ℕ) (left : ℕ) : Type 0 where
  pub counted : length tokens ≡ left
  pub slotted : length (walk_of slab tokens) ≡ left

module _ {K V P T : Type 0} where
  -- the items of these slots
  abbrev pub items_in : List (Slot K V P T) → List (Item K V)
  items_in slots = filter_map (λ slot. entry_item slot.entry) slots

  -- the hashes of these slots
  abbrev pub hashes_in : List (Slot K V P T) → List ℕ
  hashes_in slots = map (λ slot. slot.hash) slots
