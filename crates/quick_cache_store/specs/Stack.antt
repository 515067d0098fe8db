-- How a `Pool` lays out its slots, and its free tokens as a stack. No public clause cites this module.
use Rattle.std.specs.Prelude.{◌≡◌, ℕ, zero, suc, ◌+◌, ◌-◌, ◌<◌, ◌≤◌, min, List, [], ◌∷◌, length, Option, Some, None, slice_index_or}
use Rattle.std.specs.Prelude.{reverse}
use Rattle.quick_cache_store.specs.Pool.{Pool, times}

module _ {T : Type 0} where
  -- the item of a slot whose token stands so often in the stack: none where it does
  abbrev pub slot_if : ℕ → T → Option T
  slot_if zero item = Some item
  slot_if (suc n) item = None

  -- the slots of these items, the first of which has the token behind `passed`
  abbrev pub slots_past : (free : List ℕ) → (passed : ℕ) → List T → List (Option T)
  slots_past free passed [] = []
  slots_past free passed (item ∷ rest) =
      slot_if (times (passed + 1) free) item ∷ slots_past free (passed + 1) rest

  -- the pool that items and stack stand for
  abbrev pub view_of : List T → (free : List ℕ) → (room : ℕ) → Pool T
  view_of items free room =
      record { slots = slots_past free 0 items; free = reverse free; room = room }

-- how many more slots fit, with memory for so many, where there are so many
abbrev pub room_of : (for_items for_free : ℕ) → (len : ℕ) → ℕ
room_of for_items for_free len = min (min for_items for_free) 4294967294 - len

module _ {T : Type 0} (is_blank : T → Type 0) (note_of : T → ℕ) where
  -- the item of a free token is a blank, which has noted where the token stands in the stack
  abbrev pub IsNoted : (free : List ℕ) → (token : ℕ) → T → Type 0
  IsNoted free token item =
      0 < times token free → is_blank item × (slice_index_or free (note_of item) 0 ≡ token)

  -- so it is with each of these, the first of which has the token behind `passed`
  abbrev pub AreNoted : (free : List ℕ) → (passed : ℕ) → List T → Type 0
  AreNoted free passed [] = Unit {0}
  AreNoted free passed (item ∷ rest) =
      IsNoted free (passed + 1) item × AreNoted free (passed + 1) rest

  -- the slots behind so many, of which there are no more than tokens
  abbrev pub AreLeft : (free : List ℕ) → (passed : ℕ) → List T → Type 0
  AreLeft free passed items =
      (passed + length items < 4294967295) × AreNoted free passed items

  -- what always holds of items and stack, where the stack has memory for so many
  pub record IsSound (items : List T) (free : List ℕ) (for_free : ℕ) : Type 0 where
    pub few : length items ≤ 4294967294
    pub room : length items ≤ for_free
    pub once : (token : ℕ) → times token free ≤ 1
    pub within : (token : ℕ) → 0 < times token free → (0 < token) × (token ≤ length items)
    pub noted : AreNoted free 0 items
