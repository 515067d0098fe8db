use Rattle.std.proofs.Common.{length}
use Rattle.quick_cache_locked.specs.Hottest.{IsHeatedClone}
use Rattle.quick_cache_locked.specs.Saving.{heated_saved}
use Rattle.quick_cache_locked.proofs.SavedLemmas.{CameFirst}
use Rattle.quick_cache_locked.proofs.locked.saving.add_saved.Given as goal

-- clones of what came were added
abbrev pub invariant-loop-key : goal.invariant-loop-key
invariant-loop-key g l = CameFirst (IsHeatedClone g.K.Clone.is_clone g.V.Clone.is_clone) heated_saved
    l.fn.saved l.saved l.fn.list.items l.list.items

abbrev pub decreases-loop-key : goal.decreases-loop-key
decreases-loop-key g l = length l.saved
