use Rattle.quick_cache_unsync.proofs.cache.Cache.retain_some.Goals as goal

pub retain_some-requires : goal.retain_some-requires
retain_some-requires g c = record { callable = rw (← c.self.view_is) at c.requires.callable }

pub returns-clause-retains : goal.returns-clause-retains
returns-clause-retains g c = rw (← c.self.view_is) c.retain_some.ensures.retains
