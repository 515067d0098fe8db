use Rattle.std.proofs.Common.{ap}
use Rattle.quick_cache_locked.proofs.FitRemovals.{AllFit-same}
use Rattle.quick_cache_locked.proofs.locked.LockedShard.reserve.Goals as goal

-- the items are as they were
pub invariant_of-self : goal.invariant_of-self
invariant_of-self g c = AllFit-same g.L.Lifecycle.fits c.self.inside.shard.state
    c.reserve.new.self.state (ap (λ s. s.state) c.reserve.ensures.same) c.self.invariant
