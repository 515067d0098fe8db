use Rattle.quick_cache_locked.proofs.FitWrites.{AllFit-inserted}
use Rattle.quick_cache_locked.proofs.locked.LockedShard.insert.Goals as goal

-- the pair fits, and eviction keeps the others so
pub invariant_of-self : goal.invariant_of-self
invariant_of-self g c = AllFit-inserted g.L.Lifecycle
    (λ l was k v now left. g.met.L.Lifecycle.keeps_fits l was k v now left)
    c.self.inside.shard.lifecycle c.self.inside.shard.state c.insert_pair.new.self.state _
    g.K.PartialEq.eq _ c.args.key c.args.value _ c.requires.fits c.self.invariant _
    c.insert_pair.ensures.inserts

pub returns-clause-places : goal.returns-clause-places
returns-clause-places g c = rw (← c.self.view_is) c.insert_pair.ensures.places
