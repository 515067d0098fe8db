use Rattle.quick_cache_timed.proofs.alone.Timed+Expiring+K+V+We+B+L+A+T.put.Goals as goal

pub returns-clause-puts : goal.returns-clause-puts
returns-clause-puts g c = (
  c.moment.result,
  c.moment.ensures,
  rw c.of-life.ensures.life at c.put.ensures.puts,
)
