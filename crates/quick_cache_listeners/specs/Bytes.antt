-- Sizes in bytes, which stay at the greatest 64-bit number.
use Rattle.std.specs.Prelude.{ℕ, ◌-◌, ◌^◌, List, min, sum_by}

-- so many bytes, or the greatest 64-bit number where they are more
abbrev pub capped : ℕ → ℕ
capped bytes = min bytes (2 ^ 64 - 1)

-- the bytes of all items of a list
abbrev pub bytes_in : {X : Type 0} → (X → ℕ) → List X → ℕ
bytes_in bytes items = capped (sum_by bytes items)
