-- What stands in a slot.
use Rattle.std.specs.Prelude.{◌≡◌, ℕ, Bool, true, false, Option, Some, None, if◌then◌else◌, ◌==◌, eqb}
use Rattle.quick_cache_store.specs.Pool.{Pool, item_at}
use Rattle.quick_cache_model.specs.CacheState.{Item}
use Rattle.quick_cache_model.specs.declared.queue.Queue.{Queue}
use Rattle.quick_cache_store.specs.declared.slots.entry.Awaited.{Awaited}
use Rattle.quick_cache_store.specs.declared.slots.entry.Entry.{Entry}
use Rattle.quick_cache_store.specs.declared.slots.entry.Slot.{Slot}
pub use Rattle.quick_cache_store.specs.declared.slots.entry.Stand.{Stand}
pub use Rattle.quick_cache_store.specs.declared.slots.entry.Stand.TheVariants.{AmongHot, AmongCold, AmongStill, AmongLoading, AmongGhosts}

abbrev pub ring_stand : Queue → Stand
ring_stand Queue.Hot = AmongHot
ring_stand Queue.Cold = AmongCold

-- how many placeholders an entry of that list is
abbrev pub loading_in : Stand → ℕ
loading_in AmongHot = 0
loading_in AmongCold = 0
loading_in AmongStill = 0
loading_in AmongLoading = 1
loading_in AmongGhosts = 0

-- the list of an item of that weight and queue
abbrev pub stand_by : (weight : ℕ) → Queue → Stand
stand_by weight queue = if weight == 0 then AmongStill else ring_stand queue

module _ {K V : Type 0} where
  abbrev pub stand_of_item : Item K V → Stand
  stand_of_item item = if item.weight == 0 then AmongStill else ring_stand item.queue

module _ {K V P T : Type 0} where
  abbrev pub stand_in : Entry K V P T → Stand
  stand_in (Entry.Item item) = stand_of_item item
  stand_in (Entry.Loading awaited) = AmongLoading
  stand_in Entry.Ghost = AmongGhosts

  abbrev pub entry_under : (K → Bool) → Entry K V P T → Bool
  entry_under stands_for (Entry.Item item) = stands_for item.key
  entry_under stands_for (Entry.Loading awaited) = stands_for awaited.key
  entry_under stands_for Entry.Ghost = false

  -- the slot has a key that passes
  abbrev pub is_under : (K → Bool) → Slot K V P T → Bool
  is_under stands_for slot = entry_under stands_for slot.entry

  abbrev pub has_item_under : (K → Bool) → Entry K V P T → Bool
  has_item_under stands_for (Entry.Item item) = stands_for item.key
  has_item_under stands_for (Entry.Loading awaited) = false
  has_item_under stands_for Entry.Ghost = false

  -- the slot has an item whose key passes
  abbrev pub is_item_under : (K → Bool) → Slot K V P T → Bool
  is_item_under stands_for slot = has_item_under stands_for slot.entry

  abbrev pub entry_is_ghost : Entry K V P T → Bool
  entry_is_ghost (Entry.Item item) = false
  entry_is_ghost (Entry.Loading awaited) = false
  entry_is_ghost Entry.Ghost = true

  abbrev pub is_ghost : Slot K V P T → Bool
  is_ghost slot = entry_is_ghost slot.entry

  abbrev pub entry_is_item : Entry K V P T → Bool
  entry_is_item (Entry.Item item) = true
  entry_is_item (Entry.Loading awaited) = false
  entry_is_item Entry.Ghost = false

  abbrev pub is_item : Slot K V P T → Bool
  is_item slot = entry_is_item slot.entry

  abbrev pub weight_in : Entry K V P T → ℕ
  weight_in (Entry.Item item) = item.weight
  weight_in (Entry.Loading awaited) = 0
  weight_in Entry.Ghost = 0

  -- the same entry with the item changed, if it is one
  abbrev pub entry_changed : (Item K V → Item K V) → Entry K V P T → Entry K V P T
  entry_changed change (Entry.Item item) = Entry.Item (change item)
  entry_changed change (Entry.Loading awaited) = Entry.Loading awaited
  entry_changed change Entry.Ghost = Entry.Ghost

  -- the same slot with the item changed, if it has one
  abbrev pub slot_changed : (Item K V → Item K V) → Slot K V P T → Slot K V P T
  slot_changed change slot = record slot { entry = entry_changed change slot.entry }

  -- the same entry, or the item of its key if it is a key that is being loaded
  abbrev pub entry_filled : (K → Item K V) → Entry K V P T → Entry K V P T
  entry_filled item_by (Entry.Item item) = Entry.Item item
  entry_filled item_by (Entry.Loading awaited) = Entry.Item (item_by awaited.key)
  entry_filled item_by Entry.Ghost = Entry.Ghost

  -- the same slot with its entry so
  abbrev pub slot_filled : (K → Item K V) → Slot K V P T → Slot K V P T
  slot_filled item_by slot = record slot { entry = entry_filled item_by slot.entry }

  -- the slot has that hash
  abbrev pub has_hash : ℕ → Option (Slot K V P T) → Bool
  has_hash hash None = false
  has_hash hash (Some slot) = eqb slot.hash hash

  -- the item of an entry, if it is one
  abbrev pub entry_item : Entry K V P T → Option (Item K V)
  entry_item (Entry.Item item) = Some item
  entry_item (Entry.Loading awaited) = None
  entry_item Entry.Ghost = None

  -- the entry is a key that is being loaded
  abbrev pub is_placeholder : Entry K V P T → Bool
  is_placeholder (Entry.Item item) = false
  is_placeholder (Entry.Loading awaited) = true
  is_placeholder Entry.Ghost = false

  -- the key that is being loaded of an entry, if it is one
  abbrev pub entry_awaited : Entry K V P T → Option (Awaited K P)
  entry_awaited (Entry.Item item) = None
  entry_awaited (Entry.Loading awaited) = Some awaited
  entry_awaited Entry.Ghost = None

  -- the same slot with another entry
  abbrev pub with_entry : Entry K V P T → Slot K V P T → Slot K V P T
  with_entry entry slot = record slot { entry = entry }

  -- ---- at a token

  -- the slot of the token has that entry
  abbrev pub HasEntry : Pool (Slot K V P T) → ℕ → Entry K V P T → Type 0
  HasEntry pool token entry =
      (hash : ℕ) × (item_at pool token ≡ Some (record { hash = hash; entry = entry }))

  -- the slot of the token has that item
  abbrev pub HasItemEntry : Pool (Slot K V P T) → ℕ → Item K V → Type 0
  HasItemEntry pool token item = HasEntry pool token (Entry.Item item)

  -- the slot of the token has an item
  abbrev pub HasItem : Pool (Slot K V P T) → ℕ → Type 0
  HasItem pool token = (hash : ℕ) × (item : Item K V)
      × (item_at pool token ≡ Some (record { hash = hash; entry = Entry.Item item }))

  -- the slot of the token has a key that is being loaded
  abbrev pub HasLoading : Pool (Slot K V P T) → ℕ → Type 0
  HasLoading pool token = (hash : ℕ) × (awaited : Awaited K P)
      × (item_at pool token ≡ Some (record { hash = hash; entry = Entry.Loading awaited }))

  -- the value is that of the item of the token
  abbrev pub HasValue : Pool (Slot K V P T) → ℕ → V → Type 0
  HasValue pool token value = (hash : ℕ) × (item : Item K V)
      × (item_at pool token ≡ Some (record { hash = hash; entry = Entry.Item item }))
      × (value ≡ item.value)
