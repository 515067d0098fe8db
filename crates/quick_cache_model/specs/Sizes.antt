-- The sizes of a cache: its hot target and ghost limit, how a new capacity rescales them, its
-- shards.
use Rattle.std.specs.Prelude.{ℕ, ◌+◌, ◌-◌, ◌*◌, ◌/◌, ◌^◌, ◌==◌, ◌<◌, ◌≤◌, min, max, if◌then◌else◌}
use Rattle.std.specs.Int.{IsPowerOfTwo}
use Rattle.quick_cache_model.specs.CacheState.{CacheState}

-- the hot share where none is set: 97 hundredths of the capacity, in parts per million
abbrev pub default_hot_share : ℕ
default_hot_share = 970000

-- the ghost share where none is set: half of the items, in parts per million
abbrev pub default_ghost_share : ℕ
default_ghost_share = 500000

-- the nearest target to a wish: at most the capacity, and at least 1 unless the capacity is 0
abbrev pub clamped_target : (capacity wish : ℕ) → ℕ
clamped_target capacity wish = max (min wish capacity) (min capacity 1)

-- the weight up to which items stay hot: a share of the capacity, in parts per million
abbrev pub hot_target_of : (capacity share : ℕ) → ℕ
hot_target_of capacity share = clamped_target capacity (capacity * share / 1000000)

-- how many ghosts are kept: a share of the items, in parts per million, within what a count holds
abbrev pub ghost_limit_of : (items share : ℕ) → ℕ
ghost_limit_of items share = min (items * share / 1000000) (2 ^ 64 - 1)

-- the hot target at a new capacity: in proportion, and where there was none by the default share
abbrev pub rescaled_target : (old_capacity new_capacity target : ℕ) → ℕ
rescaled_target old_capacity new_capacity target =
    if old_capacity == 0 then hot_target_of new_capacity default_hot_share
    else clamped_target new_capacity (new_capacity * target / old_capacity)

-- the ghost limit at a new capacity: in proportion, within what a count holds; from none the same
abbrev pub rescaled_limit : (old_capacity new_capacity limit : ℕ) → ℕ
rescaled_limit old_capacity new_capacity limit =
    if old_capacity == 0 then limit else min (limit * new_capacity / old_capacity) (2 ^ 64 - 1)

-- The sizes of a cache as its options and each new capacity make them: the hot target is at most
-- the capacity, and at least 1 unless the capacity is 0; the ghost limit is what a count holds.
pub record IsSized {K V : Type 0} (state : CacheState K V) : Type 0 where
  pub target_within : state.hot_target ≤ state.capacity
  pub target_above : min state.capacity 1 ≤ state.hot_target
  pub limit_counts : state.ghost_limit < 2 ^ 64

-- one shard's part of a total: an equal part, rounded up by a sum that stops at what a count holds
abbrev pub shard_part : (total shards : ℕ) → ℕ
shard_part total shards = min (total + (shards - 1)) (2 ^ 64 - 1) / shards

-- a power of two is at most the least one that is not below the number of shards asked for
abbrev pub IsWithinAsked : (asked count : ℕ) → Type 0
IsWithinAsked asked count = count / 2 < max 1 asked

-- the greatest power of two within the number asked for that leaves each shard 32 items, else 1
pub record IsShardCount (asked items count : ℕ) : Type 0 where
  pub power : IsPowerOfTwo count
  pub within_asked : IsWithinAsked asked count
  pub wide_enough : 1 < count → 32 ≤ shard_part items count
  pub greatest : (more : ℕ) → IsPowerOfTwo more → count < more → IsWithinAsked asked more →
      shard_part items more < 32
