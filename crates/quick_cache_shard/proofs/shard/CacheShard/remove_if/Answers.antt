use Rattle.std.specs.Fn.{FnOnceReturnsAt}
use Rattle.quick_cache_model.proofs.OrderLaws.{UpToOrder-map}
use Rattle.quick_cache_policy.proofs.TokenLemmas.{RemovesAsked-test}
use Rattle.quick_cache_shard.proofs.shard.CacheShard.remove_if.Goals as goal

pub invariant_of-self : goal.invariant_of-self
invariant_of-self g c = c.remove_if-taken.ensures.sound _ c.self.invariant

pub remove_if-taken-requires-clause-callable : goal.remove_if-taken-requires-clause-callable
remove_if-taken-requires-clause-callable g c = rw (← c.self.view_is) at c.requires.callable

-- what a pure test answers, the predicate answered
pub returns-clause-removes : goal.returns-clause-removes
returns-clause-removes g c = λ passes as_test.
    rw (← c.self.view_is) (UpToOrder-map _ _ _
    (λ state. RemovesAsked-test (g.Q.Equivalent.equivalent c.args.query.now)
    (FnOnceReturnsAt g.F.FnOnce c.args.wanted) passes as_test _ state c.remove_if-taken.result)
    c.remove_if-taken.ensures.removes)

pub returns-clause-places : goal.returns-clause-places
returns-clause-places g c = rw (← c.self.view_is) c.remove_if-taken.ensures.places
