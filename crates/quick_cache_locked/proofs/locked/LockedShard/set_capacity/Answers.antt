use Rattle.quick_cache_locked.proofs.FitRemovals.{AllFit-resized}
use Rattle.quick_cache_locked.proofs.locked.LockedShard.set_capacity.Goals as goal

-- eviction keeps the items that stay fitting
pub invariant_of-self : goal.invariant_of-self
invariant_of-self g c = AllFit-resized g.L.Lifecycle
    (λ l was k v now left. g.met.L.Lifecycle.keeps_fits l was k v now left)
    c.self.inside.shard.lifecycle c.self.inside.shard.state c.set_capacity.new.self.state _
    c.args.capacity _ _ c.set_capacity.ensures.sets c.self.invariant

pub returns-clause-places : goal.returns-clause-places
returns-clause-places g c = rw (← c.self.view_is) c.set_capacity.ensures.places
