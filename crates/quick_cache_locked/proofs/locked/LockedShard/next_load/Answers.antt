use Rattle.std.proofs.Common.{Some}
use Rattle.quick_cache_locked.proofs.AskedLemmas.{between-above}
use Rattle.quick_cache_locked.proofs.locked.LockedShard.next_load.Goals as goal

-- one that lies between is above, too
pub loop-lesser-preserved : goal.loop-lesser-preserved
loop-lesser-preserved g c =
    between-above c.args.above (Some c.ticket.result) c.in-Some.lesser.ticket c.in-Some.ensures
