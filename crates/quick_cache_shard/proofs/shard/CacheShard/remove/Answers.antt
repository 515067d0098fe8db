use Rattle.quick_cache_shard.proofs.shard.CacheShard.remove.Goals as goal

pub invariant_of-self : goal.invariant_of-self
invariant_of-self g c = c.remove-taken.ensures.sound _ c.self.invariant

pub returns-clause-places : goal.returns-clause-places
returns-clause-places g c = rw (← c.self.view_is) c.remove-taken.ensures.places
