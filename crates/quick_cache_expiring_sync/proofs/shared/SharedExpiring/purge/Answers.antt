use Rattle.std.proofs.Common.{rules}
use Rattle.quick_cache_expiring_sync.specs.Purges.{StaysWhereLives}
use Rattle.quick_cache_expiring_sync.proofs.PurgeLemmas.{AddsUp-says}
use Rattle.quick_cache_expiring_sync.proofs.shared.SharedExpiring.purge.Goals as goal

-- the predicate answers whether an entry lives
pub returns : goal.returns
returns g c = record {
  answers = rw (← c.self.view_is) (AddsUp-says _ (StaysWhereLives c.args.now) (λ key lasting answer told. search rules) g.L.Lifecycle
      g.K.PartialEq.eq _ _ c.retain.ensures.answers);
}
