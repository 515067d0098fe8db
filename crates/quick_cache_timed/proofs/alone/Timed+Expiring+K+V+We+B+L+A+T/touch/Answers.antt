use Rattle.quick_cache_timed.proofs.alone.Timed+Expiring+K+V+We+B+L+A+T.touch.Goals as goal

pub returns-clause-touches : goal.returns-clause-touches
returns-clause-touches g c = (
  c.moment.result,
  c.moment.ensures,
  rw c.of-life.ensures.life at c.touch.ensures.touches,
)
