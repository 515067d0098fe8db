-- What a value weighs, and what its kind makes of it.
use Rattle.std.specs.Prelude.{ℕ, ◌/◌, ◌%◌, ◌==◌, Bool, if◌then◌else◌}

-- the last two digits of a value are its weight
abbrev pub weight_of : ℕ → ℕ
weight_of value = value % 100

-- what stands before them is its kind
abbrev pub kind_of : ℕ → ℕ
kind_of value = value / 100

-- the first kind is pinned
abbrev pub is_pinned : ℕ → Bool
is_pinned value = kind_of value == 1

-- what `before_evict` leaves of a value: one of the second kind loses its weight, one of the third
-- has weight 1 then, and any other stays as it is
abbrev pub value_left : ℕ → ℕ
value_left value =
    if kind_of value == 2 then 200 else if kind_of value == 3 then 301 else value
