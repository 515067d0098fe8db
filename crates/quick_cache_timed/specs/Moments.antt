-- What is so at a moment that a clock told.
use Rattle.std.specs.Prelude.{ℕ}

-- at some moment that the clock may tell this is so
abbrev pub AtMoment : (tells : ℕ → Type 0) → (ℕ → Type 0) → Type 0
AtMoment tells P = (now : ℕ) × tells now × P now

-- at each moment that the clock may tell this is so
abbrev pub AtEachMoment : (tells : ℕ → Type 0) → (ℕ → Type 0) → Type 0
AtEachMoment tells P = (now : ℕ) → tells now → P now
