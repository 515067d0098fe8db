use Rattle.quick_cache_sync.specs.Hottest.{ShowsHeat}
use Rattle.quick_cache_sync.specs.InTurn.{ShowInTurn}
use Rattle.quick_cache_sync.proofs.cache.Cache.hottest.Given as goal

-- the shards up to here have shown theirs
abbrev pub invariant-loop-index : goal.invariant-loop-index
invariant-loop-index g l = ShowInTurn g.L.Lifecycle g.K.PartialEq.eq g.row.We.Denot g.row.B.Denot
    (ShowsHeat g.K.Clone.is_clone g.V.Clone.is_clone l.count) l.index l.list.items
