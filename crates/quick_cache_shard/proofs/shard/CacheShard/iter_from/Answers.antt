use Rattle.quick_cache_shard.proofs.NextLemmas.{numbered-places}
use Rattle.quick_cache_shard.proofs.shard.CacheShard.iter_from.Goals as goal

pub returns-clause-numbered : goal.returns-clause-numbered
returns-clause-numbered g c =
    rw (← c.self.view_is) (numbered-places c.self.inside.contents.lists c.numbered.ensures)
