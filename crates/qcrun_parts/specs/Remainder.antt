-- The numbers that the hasher reads.
use Rattle.std.specs.Prelude.{ℕ, ◌==◌, List, length, if◌then◌else◌}
use Rattle.std.specs.Int.{from_le_bytes, w64}

-- the number that eight bytes write, the lowest first; others change nothing
abbrev pub number_after : ℕ → List ℕ → ℕ
number_after number bytes = if length bytes == 8 then from_le_bytes w64 bytes else number
