use Rattle.quick_cache_unsync.proofs.cache.Cache.get_if.Goals as goal

pub get_if-requires-clause-callable : goal.get_if-requires-clause-callable
get_if-requires-clause-callable g c = rw (← c.self.view_is) at c.requires.callable
