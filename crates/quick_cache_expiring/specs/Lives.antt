-- When a value is over.
use Rattle.std.specs.Prelude.{ℕ, ◌+◌, ◌-◌, ◌^◌, ◌==◌, ◌||◌, Bool, min, nat_lt}

-- the end of what is stored at a moment and lives so long: their sum, cut at the greatest number
abbrev pub end_of : (now life : ℕ) → ℕ
end_of now life = min (now + life) (2 ^ 64 - 1)

-- It serves at a moment: its end is above that, or is the greatest number, which is never over.
abbrev pub lives : (until now : ℕ) → Bool
lives until now = nat_lt now until || until == 2 ^ 64 - 1
