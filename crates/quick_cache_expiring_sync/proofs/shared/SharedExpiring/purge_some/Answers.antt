use Rattle.std.proofs.Common.{rules}
use Rattle.quick_cache_shard.proofs.RetainSomeLemmas.{RetainsSome-told}
use Rattle.quick_cache_expiring_sync.proofs.LookLemmas.{FromSome-map}
use Rattle.quick_cache_expiring_sync.proofs.shared.SharedExpiring.purge_some.Goals as goal

-- the predicate answers whether an entry lives
pub returns-in-Some : goal.returns-in-Some
returns-in-Some g c = record {
  answers = FromSome-map g.L.Lifecycle g.K.PartialEq.eq _ _
      (λ shard so. record {
        after = _;
        stopped = c.retain_some-stopped.result.0;
        purges = record {
          new = so.new;
          step = RetainsSome-told _ _ (λ key lasting answer told. search rules) _ shard _ _ so.new
              so.step;
        };
      }) c.retain_some-stopped.ensures.answers;
}

pub returns-in-None : goal.returns-in-None
returns-in-None g c = record {
  answers = FromSome-map g.L.Lifecycle g.K.PartialEq.eq _ _
      (λ shard so. record {
        after = _;
        stopped = c.retain_some-stopped.result.0;
        purges = record {
          new = so.new;
          step = RetainsSome-told _ _ (λ key lasting answer told. search rules) _ shard _ _ so.new
              so.step;
        };
      }) c.retain_some-stopped.ensures.answers;
}
