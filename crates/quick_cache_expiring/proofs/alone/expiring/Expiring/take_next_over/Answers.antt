use Rattle.std.proofs.Common.{rules}
use Rattle.quick_cache_expiring.specs.Over.{IsOverAt}
use Rattle.quick_cache_expiring.proofs.OverLemmas.{TakesNextWanted-told}
use Rattle.quick_cache_expiring.proofs.alone.expiring.Expiring.take_next_over.Goals as goal

-- the predicate answers whether an entry is over
pub returns-clause-takes : goal.returns-clause-takes
returns-clause-takes g c =
    rw (← c.self.view_is)
    (TakesNextWanted-told _ _ (IsOverAt c.args.now) (λ key lasting said told. search rules) _ _ _ _
    c.take_next_if.ensures.takes)
