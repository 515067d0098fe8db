-- How a cache is divided into shards, and which shard a key has.
use Rattle.std.specs.Prelude.{◌≡◌, ℕ, ◌-◌, ◌<◌, Vec, bit_and, slice_index_or}
use Rattle.std.specs.Int.{IsPowerOfTwo, rotate_right, w64}
use Rattle.crossbeam_utils.specs.Padded.{padded_value}
use Rattle.crossbeam_utils.specs.declared.cache_padded.CachePadded.{CachePadded}

-- how many shards a cache has, and the builder by whose hash a key has one of them
pub record Division (B : Type 0) : Type 0 where
  pub shards : ℕ
  pub builder : B

-- there is a shard, and their number is a power of two
pub record IsDivision (shards : ℕ) : Type 0 where
  pub some : 0 < shards
  pub power : IsPowerOfTwo shards

-- the shard of a hash: its last bits once it is rotated right by 32
abbrev pub shard_of_hash : (shards hash : ℕ) → ℕ
shard_of_hash shards hash = bit_and (rotate_right w64 hash 32) (shards - 1)

-- this is what stands at that place of the list
abbrev pub IsLockAt : {T A : Type 0} → Vec (CachePadded T) A → (place : ℕ) → T → Type 0
IsLockAt {T} locks place lock = (padded : CachePadded T)
    × (padded ≡ slice_index_or locks.items place padded) × (lock ≡ padded_value padded)
