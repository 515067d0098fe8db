-- How long an entry lives, and when it ends.
use Rattle.std.specs.Prelude.{ℕ, ◌+◌, ◌-◌, ◌*◌, ◌/◌, ◌%◌, ◌^◌, min, List, fold}
use Rattle.std.specs.Hash.FoldHasher.{initial, write, finish}
use Rattle.quick_cache_expiring.specs.Lives.{end_of}
use Rattle.quick_cache_timed.specs.declared.life.Life.{Life}

-- whole milliseconds, up to the greatest number
abbrev pub millis_of : (nanos : ℕ) → ℕ
millis_of nanos = min (nanos / 1_000_000) (2 ^ 64 - 1)

-- the hash picks by how many parts per million a life is less, at most by the jitter
abbrev pub shortened : Life → (hash : ℕ) → ℕ
shortened life hash = life.millis - life.millis * (hash % (life.jitter + 1)) / 1_000_000

-- the life of an entry under a key that writes this to a hasher
abbrev pub life_by : Life → List (List ℕ) → ℕ
life_by life writes = shortened life (finish (fold write initial writes))

-- the end of such an entry that was stored or renewed at the moment
abbrev pub end_by : Life → List (List ℕ) → (now : ℕ) → ℕ
end_by life writes now = end_of now (life_by life writes)
