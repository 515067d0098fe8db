use Rattle.quick_cache_timed.proofs.alone.Timed+Expiring+K+V+We+B+L+A+T.get_or_load.Goals as goal

-- at the moment that was told, behind the renewal
pub returns-clause-fetches : goal.returns-clause-fetches
returns-clause-fetches g c = (
  c.moment-now.result,
  c.moment-now.ensures,
  (
    c.renew.new.self.inner,
    rw c.of-life.ensures.life at c.renew.ensures.renews,
    rw c.of-life.ensures.life at c.get_or_load.ensures.fetches,
  ),
)
