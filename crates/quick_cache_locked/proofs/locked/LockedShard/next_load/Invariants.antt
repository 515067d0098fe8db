use Rattle.std.proofs.Common.{◌≡◌, true}
use Rattle.quick_cache_locked.specs.Invalidates.{is_above}
use Rattle.quick_cache_locked.proofs.locked.LockedShard.next_load.Given as goal

-- what was found is above
abbrev pub invariant-loop-lesser : goal.invariant-loop-lesser
invariant-loop-lesser g l = is_above l.fn.above l.next.ticket ≡ true

abbrev pub decreases-loop-lesser : goal.decreases-loop-lesser
decreases-loop-lesser g l = l.next.ticket
