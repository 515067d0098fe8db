use Rattle.std.proofs.Common.{subst}
use Rattle.quick_cache_shard.specs.Predicates.{Answers}
use Rattle.quick_cache_shard.specs.TakesWanted.{WantsNone}
use Rattle.quick_cache_sync.specs.Walks.{HoldsUpTo}
use Rattle.promises.proofs.SharedLemmas.{passed-each}
use Rattle.promises.proofs.behind_a_lock.walks.extract_one.Goals as goal

-- the walk began at the first shard, and ended behind the last
pub returns : goal.returns
returns g c =
    passed-each g.L.Lifecycle g.K.PartialEq.eq (λ shard after. WantsNone (Answers g.F.Fn c.args.wanted) after shard)
    c.next.result _ _ c.extract_if.result.at c.next.new.self.at c.extract_if.ensures.begins c.extract_if.ensures.shards
    (subst (λ wanted. HoldsUpTo g.L.Lifecycle g.K.PartialEq.eq
    (λ shard after. WantsNone (Answers g.F.Fn wanted) after shard) c.extract_if.result.at
    c.next.new.self.at.0) c.extract_if.ensures.asks c.next.ensures.steps.2) c.next.ensures.steps.3
