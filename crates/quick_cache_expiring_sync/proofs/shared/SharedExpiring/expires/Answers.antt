use Rattle.std.proofs.Common.{rules}
use Rattle.quick_cache_model.proofs.OrderLaws.{UpToOrder-map}
use Rattle.quick_cache_expiring_sync.specs.Purges.{GoesWhereOver}
use Rattle.quick_cache_expiring_sync.proofs.LookLemmas.{FromSome-map}
use Rattle.quick_cache_expiring_sync.proofs.PurgeLemmas.{RemovesAsked-says}
use Rattle.quick_cache_expiring_sync.proofs.shared.SharedExpiring.expires.Goals as goal

-- the predicate answers whether an entry is over
pub returns : goal.returns
returns g c = record {
  answers = FromSome-map g.L.Lifecycle g.K.PartialEq.eq _ _
      (λ shard so. record {
        new = so.new;
        step = UpToOrder-map _ _ so.new
            (λ state. RemovesAsked-says (g.Q.Equivalent.equivalent c.args.query.now) _
            (GoesWhereOver c.args.now) (λ lasting answer told. search rules) shard.state
            c.remove_if.result state) so.step;
      }) c.remove_if.ensures.answers;
}
