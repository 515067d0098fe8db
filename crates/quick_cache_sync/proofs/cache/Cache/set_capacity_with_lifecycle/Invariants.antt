use Rattle.quick_cache_locked.specs.Touches.{any_touches}
use Rattle.quick_cache_shard.specs.Shard.{Shard}
use Rattle.quick_cache_shard.specs.Steps.{SetsCapacityBy, goes_by}
use Rattle.quick_cache_sync.specs.InTurn.{SetInTurn}
use Rattle.quick_cache_sync.proofs.cache.Cache.set_capacity_with_lifecycle.Given as goal

-- the shards up to here were set
abbrev pub invariant-loop-index : goal.invariant-loop-index
invariant-loop-index g l = SetInTurn g.L.Lifecycle g.K.PartialEq.eq
    (λ (old new : Shard g.row.K.Denot g.row.V.Denot g.row.We.Denot g.row.B.Denot g.row.L.Denot).
    SetsCapacityBy (goes_by g.K.Hash.hash_input g.We.Weighter g.B.BuildHasher g.B.Hasher.Hasher
    g.L.Lifecycle) any_touches old l.part new) l.index l.fn.state l.state
