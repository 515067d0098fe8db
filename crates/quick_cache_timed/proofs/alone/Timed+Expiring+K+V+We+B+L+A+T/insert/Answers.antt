use Rattle.quick_cache_timed.proofs.alone.Timed+Expiring+K+V+We+B+L+A+T.insert.Goals as goal

pub returns-clause-inserts : goal.returns-clause-inserts
returns-clause-inserts g c = (
  c.moment.result,
  c.moment.ensures,
  rw c.of-life.ensures.life at c.insert.ensures.inserts,
)
