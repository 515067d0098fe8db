use Rattle.std.proofs.Common.{refl, subst}
use Rattle.std.specs.Fn.{FnOnceReturnsAt}
use Rattle.std.specs.Int.NonZero.{non_zero_u32_get as number}
use Rattle.std.specs.List.{Contains}
use Rattle.quick_cache_policy.specs.Places.{places_of}
use Rattle.quick_cache_policy.specs.declared.contents.Contents.{Contents}
use Rattle.quick_cache_policy.proofs.FindLemmas.{none-found}
use Rattle.quick_cache_policy.proofs.TestLemmas.{missed, missed-sound, passed, taken, went-same}
use Rattle.quick_cache_policy.proofs.WrittenPlaces.{without-places}
use Rattle.quick_cache_policy.proofs.contents.Contents.look_up_or_take.Goals as goal

-- nothing was found
pub returns-in_default-clause-tests : goal.returns-in_default-clause-tests
returns-in_default-clause-tests g c =
    (missed g.P.SharedPlaceholder.ticket_of c.args.self.now
    (g.Q.Equivalent.equivalent c.args.query.now)
    (none-found _ _ c.in_default.not-Some c.test_item.ensures) c.count_miss.new.self
    c.count_miss.ensures).value

pub returns-in_default-clause-sound : goal.returns-in_default-clause-sound
returns-in_default-clause-sound g c = λ hashed sound.
    missed-sound g.P.SharedPlaceholder.ticket_of c.args.self.now g.K.PartialEq.eq hashed
    c.count_miss.new.self c.count_miss.ensures sound

pub returns-in_default-clause-places : goal.returns-in_default-clause-places
returns-in_default-clause-places g c = λ place there.
    subst (λ (r : Contents _ _ _ _ _ _). Contains (places_of r.lists) place) c.count_miss.ensures
    there

-- what was found fails, and goes
pub take_item-pair-requires : goal.take_item-pair-requires
take_item-pair-requires g c = (_, c.in-Some.ensures.finds.stands, refl)

pub returns-then-not-passes-clause-tests : goal.returns-then-not-passes-clause-tests
returns-then-not-passes-clause-tests g c =
    taken g.P.SharedPlaceholder.ticket_of c.args.self.now
    (g.Q.Equivalent.equivalent c.args.query.now) c.args.hash
    (FnOnceReturnsAt g.F.FnOnce c.args.test) c.in-Some.token c.in-Some.passes c.in-Some.ensures
    c.facts.ensures.apart c.if-not-passes.true c.take_item-pair.result c.take_item-pair.new.self
    c.count_miss-then-not-passes.new.self c.take_item-pair.ensures.takes
    c.count_miss-then-not-passes.ensures

pub returns-then-not-passes-clause-sound : goal.returns-then-not-passes-clause-sound
returns-then-not-passes-clause-sound g c = λ hashed sound.
    missed-sound g.P.SharedPlaceholder.ticket_of c.take_item-pair.new.self g.K.PartialEq.eq hashed
    c.count_miss-then-not-passes.new.self c.count_miss-then-not-passes.ensures
    (c.take_item-pair.ensures.sound hashed sound)

pub returns-then-not-passes-clause-places : goal.returns-then-not-passes-clause-places
returns-then-not-passes-clause-places g c = λ place there.
    without-places (number c.in-Some.token) c.args.self.now.lists place
    (subst (λ (r : Contents _ _ _ _ _ _). Contains (places_of r.lists) place)
    c.take_item-pair.ensures.takes.rest
    (subst (λ (r : Contents _ _ _ _ _ _). Contains (places_of r.lists) place)
    c.count_miss-then-not-passes.ensures there))

pub returns-then-not-passes-clause-same : goal.returns-then-not-passes-clause-same
returns-then-not-passes-clause-same g c =
    went-same g.P.SharedPlaceholder.ticket_of c.args.self.now _ c.take_item-pair.new.self
    c.count_miss-then-not-passes.new.self c.take_item-pair.ensures.takes.rest
    c.count_miss-then-not-passes.ensures

-- what passes was looked up
pub count_hit-requires : goal.count_hit-requires
count_hit-requires g c = record { found = c.in-Some.ensures.finds }

pub returns-clause-tests : goal.returns-clause-tests
returns-clause-tests g c =
    passed g.P.SharedPlaceholder.ticket_of c.args.self.now
    (g.Q.Equivalent.equivalent c.args.query.now) c.args.hash
    (FnOnceReturnsAt g.F.FnOnce c.args.test) c.in-Some.token c.in-Some.passes c.in-Some.ensures
    c.facts.ensures.apart c.if-not-passes.false c.count_hit.new.self c.count_hit.ensures.looks_up

pub returns-clause-places : goal.returns-clause-places
returns-clause-places g c = λ place there.
    subst (λ l. Contains l place) c.count_hit.ensures.places there
