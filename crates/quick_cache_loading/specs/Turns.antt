-- Time limits, in turns of a millisecond.
use Rattle.std.specs.Prelude.{ℕ, ◌≤◌, ◌≡◌, nat_lt, not, Bool, false, Option, Some, None}
use Rattle.quick_cache_loading.specs.declared.sharing.turns.Turns.{Turns}

-- they are counted, and as many as the limit has have ended
abbrev pub none_left : (limit : Option ℕ) (ended : ℕ) → Bool
none_left (Some limit) ended = not (nat_lt ended limit)
none_left None ended = false

-- the limit is the same, and no fewer have ended
abbrev pub IsLater : (old new : Turns) → Type 0
IsLater old new = (new.limit ≡ old.limit) × (old.ended ≤ new.ended)
