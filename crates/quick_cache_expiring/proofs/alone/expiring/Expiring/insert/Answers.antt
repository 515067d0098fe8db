use Rattle.quick_cache_expiring.proofs.alone.expiring.Expiring.insert.Goals as goal

pub returns-clause-inserts : goal.returns-clause-inserts
returns-clause-inserts g c = rw (← c.self.view_is, ← c.end_of-until.ensures) c.insert.ensures.inserts
