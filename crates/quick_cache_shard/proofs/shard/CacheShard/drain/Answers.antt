use Rattle.quick_cache_shard.proofs.DrainLemmas.{Drains_in_all}
use Rattle.quick_cache_shard.specs.ShardDrain.{held}
use Rattle.quick_cache_shard.proofs.shard.CacheShard.drain.Goals as goal

pub returns-clause-gives : goal.returns-clause-gives
returns-clause-gives g c = Drains_in_all held _
