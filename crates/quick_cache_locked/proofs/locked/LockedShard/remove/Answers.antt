use Rattle.quick_cache_locked.proofs.FitRemovals.{Removes-fits, Removes-gives, AllFit-stepped}
use Rattle.quick_cache_locked.proofs.locked.LockedShard.remove.Goals as goal

-- the items that are left are as they were
pub invariant_of-self : goal.invariant_of-self
invariant_of-self g c = AllFit-stepped g.L.Lifecycle.fits c.self.inside.shard.state
    c.remove.new.self.state c.remove.ensures.removes
    (λ next step. Removes-fits g.L.Lifecycle.fits
    (g.Q.Equivalent.equivalent c.args.query.now) c.self.inside.shard.state _ _ next step)
    c.self.invariant

-- the shard had values that fit, and the answer is one of them
pub returns-clause-fits : goal.returns-clause-fits
returns-clause-fits g c =
    Removes-gives g.L.Lifecycle.fits (g.Q.Equivalent.equivalent c.args.query.now) _ _
    c.remove.result _ c.remove.ensures.removes.holds c.self.invariant

pub returns-clause-places : goal.returns-clause-places
returns-clause-places g c = rw (← c.self.view_is) c.remove.ensures.places
