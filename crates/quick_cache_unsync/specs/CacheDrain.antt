-- What a contract sees of a `Drain`: the reference that it holds, and the pairs to come.
use Rattle.std.specs.Borrow.{MutBor}
use Rattle.quick_cache_shard.specs.Shard.{Shard}
pub use Rattle.quick_cache_shard.specs.ShardDrain.{DrainSteps, DrainsInAll, drain_rest, emptied, pairs_in}
use Rattle.quick_cache_unsync.specs.declared.walking.drain.Drain.{Drain}

-- the reference to the cache that a drain takes from
abbrev pub held : {K V We B L A H : Type 0} → Drain K V We B L A H → MutBor (Shard K V We B L)
held drain = drain.cache
