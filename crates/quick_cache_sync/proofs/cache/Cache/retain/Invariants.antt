use Rattle.quick_cache_shard.specs.Predicates.{Answers}
use Rattle.quick_cache_shard.specs.Shard.{Shard}
use Rattle.quick_cache_sync.specs.Answers.{RetainsAskedSo}
use Rattle.quick_cache_sync.specs.Sums.{AddsUp}
use Rattle.quick_cache_sync.proofs.cache.Cache.retain.Given as goal

-- the shards up to here were asked
abbrev pub invariant-loop-index : goal.invariant-loop-index
invariant-loop-index g l = AddsUp g.L.Lifecycle g.K.PartialEq.eq
    (λ (shard : Shard g.row.K.Denot g.row.V.Denot g.row.We.Denot g.row.B.Denot g.row.L.Denot) gone.
    RetainsAskedSo (Answers g.F.Fn l.keep) shard.state gone) l.index l.total
