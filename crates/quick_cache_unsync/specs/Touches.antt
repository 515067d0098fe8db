-- Touches, where a cache has one thread.
use Rattle.std.specs.Prelude.{◌≡◌, ℕ}

-- nobody counts anything
abbrev pub no_touches : ℕ → Type 0
no_touches count = count ≡ 0
