use Rattle.quick_cache_shard.specs.WalksFrom.{number_or_zero}
use Rattle.quick_cache_locked.proofs.FitWalks.{AllFit-taken, taken-fits}
use Rattle.quick_cache_locked.proofs.locked.LockedShard.take_next.Goals as goal

-- the items that are left are as they were
pub invariant_of-self : goal.invariant_of-self
invariant_of-self g c =
    AllFit-taken g.L.Lifecycle (number_or_zero c.args.after) c.self.inside.shard
    c.remove_next.new.self c.self.invariant
    c.remove_next.result c.remove_next.ensures.next c.remove_next.ensures.takes

-- the shard had values that fit, and the answer is one of them
pub returns-clause-fits : goal.returns-clause-fits
returns-clause-fits g c =
    taken-fits g.L.Lifecycle (number_or_zero c.args.after) c.self.inside.shard
    c.remove_next.new.self c.self.invariant
    c.remove_next.result c.remove_next.ensures.takes

-- the step is the shard's
pub returns-clause-takes : goal.returns-clause-takes
returns-clause-takes g c = rw (← c.self.view_is) c.remove_next.ensures.next
