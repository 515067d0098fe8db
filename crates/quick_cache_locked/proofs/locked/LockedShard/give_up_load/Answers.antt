use Rattle.quick_cache_locked.proofs.FitLoads.{GivesUpPlaceholder-fits}
use Rattle.quick_cache_locked.proofs.FitRemovals.{AllFit-stepped}
use Rattle.quick_cache_locked.proofs.locked.LockedShard.give_up_load.Goals as goal

-- the items are as they were
pub invariant_of-self : goal.invariant_of-self
invariant_of-self g c = AllFit-stepped g.L.Lifecycle.fits c.self.inside.shard.state
    c.remove_placeholder.new.self.state c.remove_placeholder.ensures.gives_up
    (λ next step. GivesUpPlaceholder-fits g.L.Lifecycle.fits _ c.self.inside.shard.state next step)
    c.self.invariant

pub returns-clause-places : goal.returns-clause-places
returns-clause-places g c = rw (← c.self.view_is) c.remove_placeholder.ensures.places
