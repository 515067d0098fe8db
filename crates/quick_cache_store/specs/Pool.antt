-- What a contract sees of a `Pool`: tokens with items, and the free tokens.
use Rattle.std.specs.Prelude.{◌≡◌, ℕ, zero, suc, ◌+◌, ◌-◌, ◌<◌, ◌≤◌, List, [], ◌∷◌, ◌++◌, length, drop, filter_map, Option, Some, None}
use Rattle.std.specs.Prelude.{IsSome, slice_index_or, slice_set}
use Rattle.std.specs.List.{AllZip}
pub use Rattle.quick_cache_model.specs.Sequences.{times}

-- what stands at a token, where tokens count from 1
abbrev pub at_token : {X : Type 0} → List X → ℕ → X → X
at_token xs zero other = other
at_token xs (suc i) other = slice_index_or xs i other

-- the list with this at a token
abbrev pub with_token : {X : Type 0} → List X → ℕ → X → List X
with_token xs zero x = xs
with_token xs (suc i) x = slice_set xs i x

-- the first of a list, or this where it has none
abbrev pub first_or : ℕ → List ℕ → ℕ
first_or other [] = other
first_or other (x ∷ xs) = x

-- the item or nothing at each token from 1 on; the free tokens, the last freed first; and how many
-- more slots can be made with no allocation
pub record Pool (T : Type 0) : Type 0 where
  pub slots : List (Option T)
  pub free : List ℕ
  pub room : ℕ

module _ {T : Type 0} where
  -- the item at a token
  abbrev pub item_at : Pool T → ℕ → Option T
  item_at pool token = at_token pool.slots token None

  -- the token has an item
  abbrev pub IsOccupied : Pool T → ℕ → Type 0
  IsOccupied pool token = IsSome (item_at pool token)

  -- the token of the next insert: the last one freed, or a new one
  abbrev pub next_token : Pool T → ℕ
  next_token pool = first_or (length pool.slots + 1) pool.free

  -- how many more items it takes with no allocation
  abbrev pub spare : Pool T → ℕ
  spare pool = length pool.free + pool.room

  -- how many more items it can have, with memory for them
  abbrev pub left : Pool T → ℕ
  left pool = length pool.free + (4294967294 - length pool.slots)

  -- all slots are taken
  abbrev pub IsFull : Pool T → Type 0
  IsFull pool = (pool.free ≡ []) × (length pool.slots ≡ 4294967294)

  -- the pool with a new item at the first of these free tokens or at a new one
  abbrev pub placed : List ℕ → Pool T → T → Pool T
  placed [] pool item = record pool { slots = pool.slots ++ Some item ∷ [] }
  placed (token ∷ free) pool item = record pool {
    slots = with_token pool.slots token (Some item);
    free = free;
  }

  -- the pool with the token free
  abbrev pub removed : Pool T → ℕ → Pool T
  removed pool token = record pool {
    slots = with_token pool.slots token None;
    free = token ∷ pool.free;
  }

  -- the items, by ascending token
  abbrev pub items : Pool T → List T
  items pool = filter_map (λ slot. slot) pool.slots

  -- the tokens and items of these slots, the first of which has the token behind `passed`
  abbrev pub entries_past : ℕ → List (Option T) → List (ℕ × T)
  entries_past passed [] = []
  entries_past passed (None ∷ rest) = entries_past (passed + 1) rest
  entries_past passed (Some item ∷ rest) = (passed + 1, item) ∷ entries_past (passed + 1) rest

  -- the tokens and items of greater token, by ascending token
  abbrev pub entries_after : Pool T → ℕ → List (ℕ × T)
  entries_after pool token = entries_past token (drop token pool.slots)

  -- the pool with another item at an occupied token
  abbrev pub with_item : Pool T → ℕ → T → Pool T
  with_item pool token item = record pool { slots = with_token pool.slots token (Some item) }

  -- a copy stands where an item stands, and nothing where nothing does
  abbrev pub IsSlotCopy : (T → T → Type 0) → Option T → Option T → Type 0
  IsSlotCopy is_copy None None = Unit {0}
  IsSlotCopy is_copy None (Some copy) = ⊥
  IsSlotCopy is_copy (Some item) None = ⊥
  IsSlotCopy is_copy (Some item) (Some copy) = is_copy item copy

  -- copies of the items under the tokens of these, and the same free tokens
  pub record AreItemCopies (is_copy : T → T → Type 0) (pool copy : Pool T) : Type 0 where
    pub slots : AllZip (IsSlotCopy is_copy) pool.slots copy.slots
    pub same : copy ≡ record pool { slots = copy.slots; room = copy.room }

  -- an empty pool with this room
  abbrev pub emptied : ℕ → Pool T
  emptied room = record { slots = []; free = []; room = room }

  -- What always holds of a pool: the free tokens are those of the empty slots, each once, and slots
  -- and room are never more than a pool can have.
  pub record IsParted (pool : Pool T) : Type 0 where
    pub few : length pool.slots + pool.room ≤ 4294967294
    pub within : (token : ℕ) → IsOccupied pool token → (0 < token) × (token ≤ length pool.slots)
    pub free_once : (token : ℕ) → times token pool.free ≤ 1
    pub free_within : (token : ℕ) → 0 < times token pool.free
        → (0 < token) × (token ≤ length pool.slots) × (item_at pool token ≡ None)
    pub free_all : (token : ℕ) → 0 < token → token ≤ length pool.slots
        → item_at pool token ≡ None → 0 < times token pool.free
