-- The lists that the slots of a slab stand for. No public clause cites this module.
use Rattle.std.specs.Prelude.{◌≡◌, ◌≢◌, ℕ, zero, suc, ◌+◌, ◌-◌, ◌<◌, ◌≤◌, min, Bool, IsTrue, List, [], ◌∷◌, ◌++◌, length, Option, Some}
use Rattle.std.specs.Prelude.{None, IfSome, is_some, true, false}
use Rattle.std.specs.Int.NonZero.{non_zero_u32_get}
use Rattle.std.specs.declared.num.NonZeroU32.{NonZeroU32 as Token}
use Rattle.quick_cache_model.specs.Sequences.{times}
use Rattle.quick_cache_store.specs.Pool.{Pool, item_at, next_token, spare}
use Rattle.quick_cache_index.specs.Index.{Index, HasToken, GainsToken, KeepsAllLeads, Leads, has_token, token_count}
use Rattle.quick_cache_store.specs.declared.slots.entry.Slot.{Slot}
use Rattle.quick_cache_store.specs.Rings.{Ring, Rings}
use Rattle.quick_cache_store.specs.Lists.{Lists, entry_count}
use Rattle.quick_cache_store.specs.ListSlots.{is_under_at, is_item_under_at, is_ghost_at, weight_at, Stand, AmongHot, AmongCold}
use Rattle.quick_cache_store.specs.ListSlots.{AmongGhosts, stand_of, has_hash, item_of, still_of, loading_of, ghost_of}

-- before the rest, what there is
abbrev pub put : {Y : Type 0} → Option Y → List Y → List Y
put None ys = ys
put (Some y) ys = y ∷ ys

-- what stands at these tokens
abbrev pub gather : {Y : Type 0} → (ℕ → Option Y) → List ℕ → List Y
gather at [] = []
gather at (token ∷ tokens) = put (at token) (gather at tokens)

-- what the tokens weigh together
abbrev pub weigh : (ℕ → ℕ) → List ℕ → ℕ
weigh f [] = 0
weigh f (token ∷ tokens) = f token + weigh f tokens

-- the tokens from 1 to n
abbrev pub upto : ℕ → List ℕ
upto zero = []
upto (suc n) = upto n ++ suc n ∷ []

-- the token came to the index under that hash
pub record AddsToken (old new : Index) (hash token : ℕ) : Type 0 where
  pub leads : Leads new hash token
  pub kept : KeepsAllLeads old new
  pub tokens : GainsToken old new token
  pub count : token_count new ≡ token_count old + 1

module _ {K V P T : Type 0} where
  -- how many more entries the slots and the index take with no allocation
  abbrev pub slot_room : Pool (Slot K V P T) → Index → ℕ
  slot_room slab index = min (spare slab) index.room

  -- how many more entries fit with no allocation: in slots and index, and in each ring
  abbrev pub room_of : Pool (Slot K V P T) → Index → Rings → ℕ
  room_of slab index rings = min (slot_room slab index) (rings.capacity - token_count index)

  abbrev pub lists_of : Pool (Slot K V P T) → Index → Rings → Lists K V P
  lists_of slab index rings = record {
    hot = gather (λ token. item_of token (item_at slab token)) rings.hot.tokens;
    cold = gather (λ token. item_of token (item_at slab token)) rings.cold.tokens;
    still = gather (λ token. still_of token (item_at slab token)) (upto (length slab.slots));
    loading = gather (λ token. loading_of token (item_at slab token)) (upto (length slab.slots));
    ghosts = gather (λ token. ghost_of token (item_at slab token)) rings.ghosts.tokens;
    next = next_token slab;
    room = room_of slab index rings;
  }

  -- the ring has the tokens of that list, each once, and weighs what their entries weigh
  pub record IsRingOf (slab : Pool (Slot K V P T)) (ring : Ring)
      (stand : Stand) : Type 0 where
    pub members : (token : ℕ) → 0 < times token ring.tokens
        → stand_of (item_at slab token) ≡ Some stand
    pub all : (token : ℕ) → stand_of (item_at slab token) ≡ Some stand
        → 0 < times token ring.tokens
    pub once : (token : ℕ) → times token ring.tokens ≤ 1
    pub weighed : ring.weight ≡ weigh (λ token. weight_at (item_at slab token)) ring.tokens

  -- the entry of the token has that hash
  abbrev pub HasHash : Pool (Slot K V P T) → ℕ → ℕ → Type 0
  HasHash slab hash token = IsTrue (has_hash hash (item_at slab token))

  -- each entry's hash leads to it, and each slot is taken or free
  pub record IsKeyed (slab : Pool (Slot K V P T)) (index : Index) : Type 0 where
    pub leads : (hash token : ℕ) → HasHash slab hash token → Leads index hash token
    pub tokens : (token : ℕ) → has_token index token ≡ is_some (item_at slab token)
    pub few : length slab.slots ≤ 4294967295
    pub light : (token : ℕ) → weight_at (item_at slab token) < 18446744073709551616
    pub counted : token_count index + length slab.free ≡ length slab.slots

  -- these entries came to the index one by one
  abbrev pub AddsTokens : List (ℕ × Slot K V P T) → (old new : Index) → Type 0
  AddsTokens [] old new = new ≡ old
  AddsTokens (entry ∷ entries) old new =
      (between : Index) × AddsToken old between entry.1.hash entry.0
      × AddsTokens entries between new

  -- each ring has the tokens of its list
  pub record IsStanding (slab : Pool (Slot K V P T)) (rings : Rings) : Type 0 where
    pub hot_ring : IsRingOf slab rings.hot AmongHot
    pub cold_ring : IsRingOf slab rings.cold AmongCold
    pub ghost_ring : IsRingOf slab rings.ghosts AmongGhosts

  -- What always holds of the slots: each entry stands in its list, is found by its hash, and is
  -- counted; each ring has room for all of them, and slots and index for all that the rings can have.
  pub record IsSound (slab : Pool (Slot K V P T)) (index : Index) (rings : Rings)
      (loading : ℕ) : Type 0 where
    pub standing : IsStanding slab rings
    pub keyed : IsKeyed slab index
    pub loading_counted : loading ≡ length (lists_of slab index rings).loading
    pub all_counted : entry_count (lists_of slab index rings) ≡ token_count index
    pub within : token_count index ≤ rings.capacity
    pub bounded : rings.capacity ≤ token_count index + slot_room slab index

  -- a walk along candidates for a hash, with these left: it passed no key of that hash, and noted a
  -- ghost if it passed one
  pub record IsWalked (slab : Pool (Slot K V P T)) (index : Index) (hash : ℕ)
      (stands_for : K → Bool) (left : List ℕ) (shade : Option Token) : Type 0 where
    pub left_has : (t : ℕ) → 0 < times t left → HasToken index t
    pub passed : (t : ℕ) → HasHash slab hash t → times t left ≡ 0
        → (is_under_at stands_for (item_at slab t) ≡ false)
        × (is_ghost_at (item_at slab t) ≡ true → shade ≢ None)
    pub noted : IfSome shade (λ t. HasHash slab hash (non_zero_u32_get t)
        × (is_ghost_at (item_at slab (non_zero_u32_get t)) ≡ true))

  -- a walk along candidates for a hash, with these left, that passed no item of that hash whose key
  -- passes
  pub record PassesNoItem (slab : Pool (Slot K V P T)) (index : Index) (hash : ℕ)
      (stands_for : K → Bool) (left : List ℕ) : Type 0 where
    pub left_has : (t : ℕ) → 0 < times t left → HasToken index t
    pub passed : (t : ℕ) → HasHash slab hash t → times t left ≡ 0
        → is_item_under_at stands_for (item_at slab t) ≡ false
