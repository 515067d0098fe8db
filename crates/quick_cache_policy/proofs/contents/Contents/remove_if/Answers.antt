use Rattle.std.proofs.Common.{refl, subst}
use Rattle.std.specs.Fn.{FnOnceReturnsAt}
use Rattle.std.specs.Int.NonZero.{non_zero_u32_get as number}
use Rattle.std.specs.List.{Contains}
use Rattle.quick_cache_model.proofs.OrderLaws.{UpToOrder-exact}
use Rattle.quick_cache_policy.specs.Places.{places_of}
use Rattle.quick_cache_policy.specs.Predicates.{RemovesAsked}
use Rattle.quick_cache_policy.specs.declared.contents.Contents.{Contents}
use Rattle.quick_cache_policy.proofs.FindLemmas.{none-found}
use Rattle.quick_cache_policy.proofs.TestLemmas.{goes, stays}
use Rattle.quick_cache_policy.proofs.WrittenPlaces.{without-places}
use Rattle.quick_cache_policy.proofs.contents.Contents.remove_if.Goals as goal

-- no item was found
pub returns-in_default-clause-removes : goal.returns-in_default-clause-removes
returns-in_default-clause-removes g c =
    UpToOrder-exact _ _
    (RemovesAsked.absent (none-found _ _ c.in_default.not-Some c.test_item.ensures))

-- the one that was found is not wanted
pub returns-then-not-goes-clause-removes : goal.returns-then-not-goes-clause-removes
returns-then-not-goes-clause-removes g c =
    UpToOrder-exact _ _ (stays g.P.SharedPlaceholder.ticket_of c.args.self.now
    (g.Q.Equivalent.equivalent c.args.query.now) c.args.hash
    (FnOnceReturnsAt g.F.FnOnce c.args.wanted) c.in-Some.token c.in-Some.goes c.in-Some.ensures
    c.if-not-goes.true)

-- it is wanted, and goes
pub take_item-requires : goal.take_item-requires
take_item-requires g c = (_, c.in-Some.ensures.finds.stands, refl)

pub returns-clause-removes : goal.returns-clause-removes
returns-clause-removes g c =
    UpToOrder-exact _ _ (goes g.P.SharedPlaceholder.ticket_of c.args.self.now
    (g.Q.Equivalent.equivalent c.args.query.now) c.args.hash
    (FnOnceReturnsAt g.F.FnOnce c.args.wanted) c.in-Some.token c.in-Some.goes c.in-Some.ensures
    c.facts.ensures.apart c.if-not-goes.false c.take_item.result c.take_item.new.self
    c.take_item.ensures.takes)

pub returns-in_default-clause-places : goal.returns-in_default-clause-places
returns-in_default-clause-places g c = λ place there. there

pub returns-then-not-goes-clause-places : goal.returns-then-not-goes-clause-places
returns-then-not-goes-clause-places g c = λ place there. there

pub returns-clause-places : goal.returns-clause-places
returns-clause-places g c = λ place there.
    without-places (number c.in-Some.token) c.args.self.now.lists place
    (subst (λ (r : Contents _ _ _ _ _ _). Contains (places_of r.lists) place)
    c.take_item.ensures.takes.rest there)
