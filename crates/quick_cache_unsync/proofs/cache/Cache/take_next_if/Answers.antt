use Rattle.quick_cache_unsync.proofs.cache.Cache.take_next_if.Goals as goal

pub take_next_if-requires : goal.take_next_if-requires
take_next_if-requires g c = record { callable = rw (← c.self.view_is) at c.requires.callable }

pub returns-clause-takes : goal.returns-clause-takes
returns-clause-takes g c = rw (← c.self.view_is) c.take_next_if.ensures.takes
