use Rattle.quick_cache_expiring.proofs.alone.expiring.Expiring.put.Goals as goal

pub returns-clause-puts : goal.returns-clause-puts
returns-clause-puts g c = rw (← c.self.view_is, ← c.end_of-until.ensures) c.put.ensures.puts
