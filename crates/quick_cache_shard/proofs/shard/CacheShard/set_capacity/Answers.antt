use Rattle.quick_cache_shard.proofs.shard.CacheShard.set_capacity.Goals as goal

-- the rules and the hooks are those of what the shard was made with
pub returns-clause-sets : goal.returns-clause-sets
returns-clause-sets g c = rw (← c.self.view_is) c.set_capacity.ensures.sets

pub returns-clause-places : goal.returns-clause-places
returns-clause-places g c = rw (← c.self.view_is) c.set_capacity.ensures.places
