use Rattle.quick_cache_shard.proofs.DrainLemmas.{Drains_in_all}
use Rattle.quick_cache_unsync.specs.CacheDrain.{held}
use Rattle.quick_cache_unsync.proofs.cache.Cache.drain.Goals as goal

pub returns-clause-gives : goal.returns-clause-gives
returns-clause-gives g c = Drains_in_all held _
