use Rattle.quick_cache_locked.specs.Saving.{ShowsSaved}
use Rattle.quick_cache_sync.specs.InTurn.{ShowInTurn}
use Rattle.quick_cache_sync.proofs.cache.Cache.saved.Given as goal

-- the shards up to here have shown their items
abbrev pub invariant-loop-index : goal.invariant-loop-index
invariant-loop-index g l = ShowInTurn g.L.Lifecycle g.K.PartialEq.eq g.row.We.Denot g.row.B.Denot
    (ShowsSaved g.K.Clone.is_clone g.V.Clone.is_clone) l.index l.list.items
