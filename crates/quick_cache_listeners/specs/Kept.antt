-- What a listener keeps of the pairs that leave.
use Rattle.std.specs.Prelude.{◌≡◌, ℕ, ◌-◌, List, [], ◌∷◌, ◌++◌, Option, Some, None, Vec, vec_len, vec_capacity}
use Rattle.quick_cache_model.specs.Touches.{counted_up}

-- The pairs in the order in which they left, if there is a list for them; for how many more the list
-- has room; and how many were lost, up to the greatest 64-bit number.
pub record Kept (K V : Type 0) : Type 0 where
  pub pairs : Option (List (K × V))
  pub room : ℕ
  pub lost : ℕ

-- for how many more a list has room, where it asks for no memory
abbrev pub room_in : {X A : Type 0} → Option (Vec X A) → ℕ
room_in None = 0
room_in (Some list) = vec_capacity list - vec_len list

-- A pair that left was put last into the list. It is lost, and counted, where there is no list, or
-- no room in it and no memory.
pub data Keeps {K V : Type 0} (old : Kept K V) (key : K) (value : V) (new : Kept K V) : Type 0 where
  puts : (pairs : List (K × V)) → old.pairs ≡ Some pairs
      → new.pairs ≡ Some (pairs ++ (key, value) ∷ []) → new.lost ≡ old.lost
      → Keeps old key value new
  loses : old.room ≡ 0 → new.pairs ≡ old.pairs → new.lost ≡ counted_up 1 old.lost
      → Keeps old key value new
