use Rattle.quick_cache_shard.specs.PlaceWalks.{EndsAt}
use Rattle.promises.proofs.SharedLemmas.{passed-each}
use Rattle.promises.proofs.behind_a_lock.walks.drain_one.Goals as goal

-- the walk began at the first shard, and ended behind the last
pub returns : goal.returns
returns g c =
    passed-each g.L.Lifecycle g.K.PartialEq.eq (λ shard after. EndsAt shard.places after)
    c.next.result _ _ c.drain.result.at c.next.new.self.at c.drain.ensures.begins c.drain.ensures.shards
    c.next.ensures.steps.2 c.next.ensures.steps.3
