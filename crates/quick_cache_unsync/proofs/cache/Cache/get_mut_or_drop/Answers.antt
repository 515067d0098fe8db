use Rattle.quick_cache_unsync.proofs.cache.Cache.get_mut_or_drop.Goals as goal

pub look_up_or_take-requires-clause-callable : goal.look_up_or_take-requires-clause-callable
look_up_or_take-requires-clause-callable g c = rw (← c.self.view_is) at c.requires.callable
