-- Calls that are made on each shard of a row, one after the other.
use Rattle.std.specs.Prelude.{◌≡◌, ℕ, ◌+◌, ◌-◌, ◌^◌, Bool, List, min}
use Rattle.std.specs.declared.hash.Hasher as hasher
use Rattle.std.specs.declared.hash.BuildHasher as builder
use mathlib.Core.List.{IsPrefix}
use Rattle.quick_cache_model.specs.CacheState.{item_count}
use Rattle.quick_cache_model.specs.Hashing.{hash_of}
use Rattle.quick_cache_model.specs.declared.calls.call.Call.{Call}
use Rattle.quick_cache_model.specs.declared.calls.reply.Reply.{Reply}
use Rattle.quick_cache_shard.specs.Steps.{Goes}
use Rattle.quick_cache_sync.specs.Shards.{Division, shard_of_hash}
use Rattle.quick_cache_history.specs.declared.entry.Entry.{Entry}
use Rattle.quick_cache_history.specs.KeptShards.{AtEnd}
use Rattle.quick_cache_history.specs.Seats.{Caller, Extends}

-- the shard of a key, by what it writes into a hasher
abbrev pub shard_of : {B H : Type 0} → builder.Ghosts B H → hasher.Ghosts H → Division B
    → List (List ℕ) → ℕ
shard_of make hashes division written =
    shard_of_hash division.shards (hash_of make hashes division.builder written)

-- Each shard below this number was come to in turn, and each step led from what the one before left.
pub data OnEach {C : Type 0} (Step : ℕ → C → C → Type 0) (first : C) : (number : ℕ) → C → Type 0
  where
    none : OnEach Step first 0 first
    more : (number : ℕ) (mid last : C) → OnEach Step first number mid → Step number mid last
        → OnEach Step first (number + 1) last

module _ {K V We B L S : Type 0} (goes : Goes K V We B L S) (is_default : S → Type 0)
    (equal : K → K → Bool) (number : ℕ) where
  -- the shard was cleared, by one more of the seat's calls
  pub record Clears (old new : Caller K V) : Type 0 where
    pub extends : Extends old (Entry.Made old.turn new.turn number Call.Clear Reply.Done) new
    pub run : AtEnd goes is_default equal number new.seen (λ shard. Unit {0})

  -- The items of the shard were added to a sum, which stays at the greatest machine number once it is
  -- there.
  pub record Counts (old new : Caller K V × ℕ) : Type 0 where
    pub longer : IsPrefix old.0.seen new.0.seen
    pub seat : new.0 ≡ record (old.0) { seen = new.0.seen }
    pub shows : AtEnd goes is_default equal number new.0.seen
        (λ shard. new.1 ≡ min (old.1 + item_count shard.state) (2 ^ 64 - 1))
