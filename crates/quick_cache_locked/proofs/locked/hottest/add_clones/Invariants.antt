use Rattle.std.proofs.Common.{take}
use Rattle.std.specs.List.{AppendsClones}
use Rattle.quick_cache_locked.specs.Hottest.{IsHeatedClone, pairs_read}
use Rattle.quick_cache_locked.proofs.locked.hottest.add_clones.Given as goal

-- clones of those up to here were added
abbrev pub invariant-loop-item : goal.invariant-loop-item
invariant-loop-item g l = AppendsClones (IsHeatedClone g.K.Clone.is_clone g.V.Clone.is_clone)
    l.fn.list.items l.list.items (take l.item-index (pairs_read l.shown))
