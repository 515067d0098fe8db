use Rattle.quick_cache_unsync.proofs.cache.Cache.remove_if.Goals as goal

pub remove_if-requires-clause-callable : goal.remove_if-requires-clause-callable
remove_if-requires-clause-callable g c = rw (← c.self.view_is) at c.requires.callable
