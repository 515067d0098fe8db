use Rattle.quick_cache_expiring.proofs.alone.expiring.Expiring.set_capacity.Goals as goal

pub returns-clause-sets : goal.returns-clause-sets
returns-clause-sets g c = rw (← c.self.view_is) c.set_capacity.ensures.sets
