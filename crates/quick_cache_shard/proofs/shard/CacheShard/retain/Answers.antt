use Rattle.quick_cache_model.proofs.OrderLaws.{UpToOrder-map}
use Rattle.quick_cache_policy.specs.Predicates.{Answers}
use Rattle.quick_cache_policy.proofs.RetainLemmas.{RetainsAsked-test}
use Rattle.quick_cache_shard.proofs.shard.CacheShard.retain.Goals as goal

pub invariant_of-self : goal.invariant_of-self
invariant_of-self g c = c.retain.ensures.sound _ c.self.invariant

pub retain-requires : goal.retain-requires
retain-requires g c = record { callable = rw (← c.self.view_is) at c.requires.callable }

-- what a pure test answers, the predicate answered
pub returns-clause-retains : goal.returns-clause-retains
returns-clause-retains g c = λ keeps as_test.
    rw (← c.self.view_is) (UpToOrder-map _ _ _
    (λ state. RetainsAsked-test (Answers g.F.Fn c.args.keep) keeps as_test _ state)
    c.retain.ensures.retains)

pub returns-clause-places : goal.returns-clause-places
returns-clause-places g c = rw (← c.self.view_is) c.retain.ensures.places
