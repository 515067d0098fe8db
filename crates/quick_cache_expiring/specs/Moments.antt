-- When a value may be answered that was loaded at a moment, and lives for so long.
use Rattle.std.specs.Prelude.{◌≡◌, ℕ, ◌+◌, ◌<◌}

module _ (life moment now : ℕ) where
  -- what was stored serves while it lives, and what lives for 0 serves nobody
  abbrev pub Serves : Type 0
  Serves = (0 < life) × (now < moment + life)

  -- An answer is fresh: it still lives. Where nothing lives, it was loaded at that very moment.
  pub record IsFresh : Type 0 where
    pub lives : 0 < life → now < moment + life
    pub own : life ≡ 0 → moment ≡ now

-- its life and a grace after it are not over
abbrev pub IsWithin : (life grace moment now : ℕ) → Type 0
IsWithin life grace moment now = now < moment + life + grace

-- its loader was last asked longer ago than that
abbrev pub IsDue : (asked refresh_after now : ℕ) → Type 0
IsDue asked refresh_after now = asked + refresh_after < now

-- it serves, and is not due
abbrev pub IsYoung : (life moment asked refresh_after now : ℕ) → Type 0
IsYoung life moment asked refresh_after now = Serves life moment now
    × (IsDue asked refresh_after now → ⊥)
