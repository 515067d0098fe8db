use Rattle.quick_cache_unsync.proofs.cache.Cache.get_or_drop.Goals as goal

pub get_or_drop-requires-clause-callable : goal.get_or_drop-requires-clause-callable
get_or_drop-requires-clause-callable g c = rw (← c.self.view_is) at c.requires.callable
