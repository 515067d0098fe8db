-- What stands in a slot, as the lists see it. No public clause cites this module.
use Rattle.std.specs.Prelude.{List, [], ◌∷◌, ℕ, Bool, false, Option, Some, None, if◌then◌else◌, ◌==◌}
use Rattle.quick_cache_store.specs.declared.slots.entry.Entry.{Entry}
use Rattle.quick_cache_store.specs.declared.slots.entry.Slot.{Slot}
pub use Rattle.quick_cache_store.specs.declared.slots.entry.Stand.{Stand}
pub use Rattle.quick_cache_store.specs.declared.slots.entry.Stand.TheVariants.{AmongHot, AmongCold, AmongStill, AmongLoading, AmongGhosts}
pub use Rattle.quick_cache_store.specs.Slots.{ring_stand, loading_in, stand_by, stand_of_item, stand_in, entry_under, is_under}
pub use Rattle.quick_cache_store.specs.Slots.{has_item_under, is_item_under, entry_is_ghost, is_ghost, entry_is_item, is_item, weight_in}
pub use Rattle.quick_cache_store.specs.Slots.{entry_changed, slot_changed, entry_filled, slot_filled, has_hash, entry_awaited, with_entry}
use Rattle.quick_cache_store.specs.Lists.{HeldItem, HeldLoading, HeldGhost}

module _ {K V : Type 0} where
  -- of an item of weight 0 alone
  abbrev pub if_still : Option (HeldItem K V) → Option (HeldItem K V)
  if_still None = None
  if_still (Some held) = if held.item.weight == 0 then Some held else None

module _ {K V P T : Type 0} where
  -- the list of a slot, if it has an entry
  abbrev pub stand_of : Option (Slot K V P T) → Option Stand
  stand_of None = None
  stand_of (Some slot) = Some (stand_in slot.entry)

  abbrev pub is_under_at : (K → Bool) → Option (Slot K V P T) → Bool
  is_under_at stands_for None = false
  is_under_at stands_for (Some slot) = is_under stands_for slot

  abbrev pub is_item_under_at : (K → Bool) → Option (Slot K V P T) → Bool
  is_item_under_at stands_for None = false
  is_item_under_at stands_for (Some slot) = is_item_under stands_for slot

  abbrev pub is_ghost_at : Option (Slot K V P T) → Bool
  is_ghost_at None = false
  is_ghost_at (Some slot) = is_ghost slot

  -- what a slot weighs
  abbrev pub weight_at : Option (Slot K V P T) → ℕ
  weight_at None = 0
  weight_at (Some slot) = weight_in slot.entry

  abbrev pub is_item_at : Option (Slot K V P T) → Bool
  is_item_at None = false
  is_item_at (Some slot) = is_item slot

  -- the token of the first of these entries that is an item
  abbrev pub first_item : List (ℕ × Slot K V P T) → Option ℕ
  first_item [] = None
  first_item (entry ∷ rest) = if is_item entry.1 then Some entry.0 else first_item rest

  -- the hash of a slot, or 0 where it has no entry
  abbrev pub hash_in : Option (Slot K V P T) → ℕ
  hash_in None = 0
  hash_in (Some slot) = slot.hash

  -- what the lists show of a slot
  abbrev pub item_in : ℕ → ℕ → Entry K V P T → Option (HeldItem K V)
  item_in token hash (Entry.Item item) = Some (record { token = token; hash = hash; item = item })
  item_in token hash (Entry.Loading awaited) = None
  item_in token hash Entry.Ghost = None

  abbrev pub item_of : ℕ → Option (Slot K V P T) → Option (HeldItem K V)
  item_of token None = None
  item_of token (Some slot) = item_in token slot.hash slot.entry

  abbrev pub still_of : ℕ → Option (Slot K V P T) → Option (HeldItem K V)
  still_of token slot = if_still (item_of token slot)

  abbrev pub placeholder_in : ℕ → ℕ → Entry K V P T → Option (HeldLoading K P)
  placeholder_in token hash (Entry.Item item) = None
  placeholder_in token hash (Entry.Loading awaited) =
      Some (record {
        token = token;
        hash = hash;
        key = awaited.key;
        queue = awaited.queue;
        placeholder = awaited.placeholder;
      })
  placeholder_in token hash Entry.Ghost = None

  abbrev pub loading_of : ℕ → Option (Slot K V P T) → Option (HeldLoading K P)
  loading_of token None = None
  loading_of token (Some slot) = placeholder_in token slot.hash slot.entry

  abbrev pub ghost_in : ℕ → ℕ → Entry K V P T → Option HeldGhost
  ghost_in token hash (Entry.Item item) = None
  ghost_in token hash (Entry.Loading awaited) = None
  ghost_in token hash Entry.Ghost = Some (record { token = token; hash = hash })

  abbrev pub ghost_of : ℕ → Option (Slot K V P T) → Option HeldGhost
  ghost_of token None = None
  ghost_of token (Some slot) = ghost_in token slot.hash slot.entry
