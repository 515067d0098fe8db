-- A loader with its cache, as contracts see it.
use Rattle.std.specs.Prelude.{ℕ, Bool, Option}

-- the loader, how long its values live, for how long after that they may be answered where a load
-- fails, how long it then is not asked again, and how many shards its cache has
pub record Reading (L F : Type 0) : Type 0 where
  pub lives : L
  pub grace : ℕ
  pub retry_after : ℕ
  pub loader : F
  pub shards : ℕ

-- one that begins: it has no grace, and no pause behind a load
abbrev pub begun : {L F : Type 0} → L → F → ℕ → Reading L F
begun lives loader shards =
    record { lives = lives; grace = 0; retry_after = 0; loader = loader; shards = shards }

-- A future that asks it for a key at a moment: once it waits, the source by which the placeholder of
-- the key wakes it, and whether it has answered.
pub record Asking (K L F : Type 0) : Type 0 where
  pub reading : Reading L F
  pub key : K
  pub moment : ℕ
  pub source : Option ℕ
  pub is_finished : Bool
