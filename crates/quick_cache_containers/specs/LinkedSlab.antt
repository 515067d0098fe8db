-- What a contract sees of a `LinkedSlab`: tokens with items, their rings, and the free tokens.
use Rattle.std.specs.Prelude.{◌≡◌, ◌≢◌, ◌↔◌, ℕ, zero, suc, ◌+◌, ◌-◌, ◌<◌, ◌≤◌, cond, eqb, List, [], ◌∷◌, ◌++◌, length, map, drop}
use Rattle.std.specs.Prelude.{filter_map, Option, Some, None, IsSome, slice_index_or, slice_set}
use Rattle.std.specs.List.{AllZip}
use Rattle.std.specs.Int.NonZero.{non_zero_u32_get}
use Rattle.std.specs.declared.num.NonZeroU32.{NonZeroU32 as Token}
pub use Rattle.quick_cache_model.specs.Sequences.{times}

-- what stands at a token, where tokens count from 1
abbrev pub at_token : {X : Type 0} → List X → ℕ → X → X
at_token xs zero other = other
at_token xs (suc i) other = slice_index_or xs i other

-- the list with this at a token
abbrev pub with_token : {X : Type 0} → List X → ℕ → X → List X
with_token xs zero x = xs
with_token xs (suc i) x = slice_set xs i x

-- the first of a list, or this where it has none
abbrev pub first_or : ℕ → List ℕ → ℕ
first_or other [] = other
first_or other (x ∷ xs) = x

-- the list without the token
abbrev pub without : ℕ → List ℕ → List ℕ
without token [] = []
without token (x ∷ xs) = cond (eqb x token) (without token xs) (x ∷ without token xs)

-- the list with the token before each place where `head` stands
abbrev pub before_head : ℕ → ℕ → List ℕ → List ℕ
before_head token head [] = []
before_head token head (x ∷ xs) =
    cond (eqb x head) (token ∷ x ∷ before_head token head xs) (x ∷ before_head token head xs)

-- a ring with the token put in before `head`, so at the end of a list that begins with `head`
abbrev pub joined : ℕ → ℕ → List ℕ → List ℕ
joined token head [] = []
joined token head (x ∷ xs) = x ∷ (before_head token head xs ++ cond (eqb x head) (token ∷ []) [])

-- the item or nothing at each token from 1 on; the ring of each token, as the list that begins with
-- it, or no list at a free one; the free tokens, the last freed first; and how many more slots can
-- be made with no allocation
pub record LinkedSlab (T : Type 0) : Type 0 where
  pub slots : List (Option T)
  pub rings : List (List ℕ)
  pub free : List ℕ
  pub room : ℕ

module _ {T : Type 0} where
  -- the item at a token
  abbrev pub item_at : LinkedSlab T → ℕ → Option T
  item_at slab token = at_token slab.slots token None

  -- the token has an item
  abbrev pub IsOccupied : LinkedSlab T → ℕ → Type 0
  IsOccupied slab token = IsSome (item_at slab token)

  -- the ring of a token, as the list that begins with it
  abbrev pub ring_from : LinkedSlab T → ℕ → List ℕ
  ring_from slab token = at_token slab.rings token []

  -- the token behind this one in its ring, which is itself in a ring of one
  abbrev pub successor : LinkedSlab T → ℕ → ℕ
  successor slab token = first_or token (without token (ring_from slab token))

  -- the token of the next insert: the last one freed, or a new one
  abbrev pub next_token : LinkedSlab T → ℕ
  next_token slab = first_or (length slab.slots + 1) slab.free

  -- how many more items it takes with no allocation
  abbrev pub spare : LinkedSlab T → ℕ
  spare slab = length slab.free + slab.room

  -- how many more items it can have, with memory for them
  abbrev pub left : LinkedSlab T → ℕ
  left slab = length slab.free + (4294967294 - length slab.slots)

  -- all slots are taken
  abbrev pub IsFull : LinkedSlab T → Type 0
  IsFull slab = (slab.free ≡ []) × (length slab.slots ≡ 4294967294)

  -- the slab with a new item, a ring of its own, at the first of these free tokens or at a new one
  abbrev pub placed : List ℕ → LinkedSlab T → T → LinkedSlab T
  placed [] slab item = record slab {
    slots = slab.slots ++ Some item ∷ [];
    rings = slab.rings ++ ((length slab.slots + 1) ∷ []) ∷ [];
  }
  placed (token ∷ free) slab item = record slab {
    slots = with_token slab.slots token (Some item);
    rings = with_token slab.rings token (token ∷ []);
    free = free;
  }

  -- the slab with the token put in before the head, at the end of the list that begins with it
  abbrev pub linked : LinkedSlab T → ℕ → ℕ → LinkedSlab T
  linked slab token head = record slab {
    rings = with_token (map (joined token head) slab.rings) token (token ∷ ring_from slab head);
  }

  -- the slab with the token taken out of its ring, and left a ring of its own
  abbrev pub unlinked : LinkedSlab T → ℕ → LinkedSlab T
  unlinked slab token =
      record slab { rings = with_token (map (without token) slab.rings) token (token ∷ []) }

  -- the slab with the token taken out of its ring, and free
  abbrev pub removed : LinkedSlab T → ℕ → LinkedSlab T
  removed slab token = record slab {
    slots = with_token slab.slots token None;
    rings = with_token (map (without token) slab.rings) token [];
    free = token ∷ slab.free;
  }

  -- the answer is the token behind this one in its ring, if that is another
  abbrev pub IsNextOf : LinkedSlab T → ℕ → Option Token → Type 0
  IsNextOf slab token None = ring_from slab token ≡ token ∷ []
  IsNextOf slab token (Some next) =
      (non_zero_u32_get next ≡ successor slab token) × (non_zero_u32_get next ≢ token)

  -- the token is a ring of one
  abbrev pub IsAlone : LinkedSlab T → ℕ → Type 0
  IsAlone slab token = ring_from slab token ≡ token ∷ []

  -- the token behind a token is itself exactly where that is a ring of one
  abbrev pub IsAloneIf : LinkedSlab T → Token → Token → Type 0
  IsAloneIf slab token next =
      (non_zero_u32_get next ≡ non_zero_u32_get token) ↔ IsAlone slab (non_zero_u32_get token)

  -- the token stands last in the list of the ring that begins with the head
  abbrev pub JoinsEnd : LinkedSlab T → LinkedSlab T → ℕ → ℕ → Type 0
  JoinsEnd old new token head = ring_from new head ≡ ring_from old head ++ token ∷ []

  -- the items, by ascending token
  abbrev pub items : LinkedSlab T → List T
  items slab = filter_map (λ slot. slot) slab.slots

  -- the tokens and items of these slots, the first of which has the token behind `passed`
  abbrev pub entries_past : ℕ → List (Option T) → List (ℕ × T)
  entries_past passed [] = []
  entries_past passed (None ∷ rest) = entries_past (passed + 1) rest
  entries_past passed (Some item ∷ rest) = (passed + 1, item) ∷ entries_past (passed + 1) rest

  -- the tokens and items of greater token, by ascending token
  abbrev pub entries_after : LinkedSlab T → ℕ → List (ℕ × T)
  entries_after slab token = entries_past token (drop token slab.slots)

  -- the slab with another item at an occupied token
  abbrev pub with_item : LinkedSlab T → ℕ → T → LinkedSlab T
  with_item slab token item = record slab { slots = with_token slab.slots token (Some item) }

  -- a copy stands where an item stands, and nothing where nothing does
  abbrev pub IsSlotCopy : (T → T → Type 0) → Option T → Option T → Type 0
  IsSlotCopy is_copy None None = Unit {0}
  IsSlotCopy is_copy None (Some copy) = ⊥
  IsSlotCopy is_copy (Some item) None = ⊥
  IsSlotCopy is_copy (Some item) (Some copy) = is_copy item copy

  -- copies of the items under the tokens of these, in the same rings, and the same free tokens
  pub record AreItemCopies (is_copy : T → T → Type 0) (slab copy : LinkedSlab T) : Type 0 where
    pub slots : AllZip (IsSlotCopy is_copy) slab.slots copy.slots
    pub same : copy ≡ record slab { slots = copy.slots; room = copy.room }

  -- an empty slab with this room
  abbrev pub emptied : ℕ → LinkedSlab T
  emptied room = record { slots = []; rings = []; free = []; room = room }

  -- What always holds of a slab. The rings part the occupied tokens: each is in the list of its own
  -- ring, which begins with it and has each token once, and the list of a member is the same ring,
  -- begun at that member. A free token has no ring, and is in the list of free tokens once. Slots
  -- and room are never more than a slab can have.
  pub record IsParted (slab : LinkedSlab T) : Type 0 where
    pub few : length slab.slots + slab.room ≤ 4294967294
    pub ring_each : length slab.rings ≡ length slab.slots
    pub within : (token : ℕ) → IsOccupied slab token → (0 < token) × (token ≤ length slab.slots)
    pub begins : (token : ℕ) → IsOccupied slab token
        → (rest : List ℕ) × (ring_from slab token ≡ token ∷ rest)
    pub ringless : (token : ℕ) → item_at slab token ≡ None → ring_from slab token ≡ []
    pub once : (token other : ℕ) → times other (ring_from slab token) ≤ 1
    pub held : (token other : ℕ) → 0 < times other (ring_from slab token) → IsOccupied slab other
    pub turned : (token other : ℕ) (before after : List ℕ)
        → ring_from slab token ≡ before ++ other ∷ after
        → ring_from slab other ≡ other ∷ (after ++ before)
    pub free_once : (token : ℕ) → times token slab.free ≤ 1
    pub free_within : (token : ℕ) → 0 < times token slab.free
        → (0 < token) × (token ≤ length slab.slots) × (item_at slab token ≡ None)
    pub free_all : (token : ℕ) → 0 < token → token ≤ length slab.slots
        → item_at slab token ≡ None → 0 < times token slab.free
