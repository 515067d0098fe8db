use Rattle.quick_cache_unsync.proofs.cache.Cache.retain.Goals as goal

pub retain-requires : goal.retain-requires
retain-requires g c = record { callable = rw (← c.self.view_is) at c.requires.callable }
