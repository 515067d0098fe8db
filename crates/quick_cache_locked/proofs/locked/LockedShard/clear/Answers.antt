use Rattle.std.proofs.Common.{ap}
use Rattle.quick_cache_locked.proofs.FitRemovals.{AllFit-cleared}
use Rattle.quick_cache_locked.proofs.locked.LockedShard.clear.Goals as goal

-- no item is left
pub invariant_of-self : goal.invariant_of-self
invariant_of-self g c = AllFit-cleared g.L.Lifecycle.fits c.self.inside.shard.state
    c.clear.new.self.state (ap (λ s. s.state) c.clear.ensures.clears)
