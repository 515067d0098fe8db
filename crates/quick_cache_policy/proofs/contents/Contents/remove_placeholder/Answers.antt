use Rattle.std.proofs.Common.{sym, subst, inl, inr}
use Rattle.std.specs.Int.NonZero.{non_zero_u32_get as number}
use Rattle.quick_cache_model.specs.Placeholders.{GivesUpPlaceholder}
use Rattle.quick_cache_model.proofs.OrderLaws.{UpToOrder-exact}
use Rattle.quick_cache_store.specs.Lists.{Lists}
use Rattle.quick_cache_policy.specs.Contents.{IsSound, state_of}
use Rattle.quick_cache_policy.proofs.EnterLemmas.{state_with}
use Rattle.quick_cache_policy.proofs.FillLemmas.{HasNoTicket-state, left-gives_up, left-sound}
use Rattle.quick_cache_policy.proofs.FindLemmas.{none-found}
use Rattle.std.specs.List.{Contains}
use Rattle.quick_cache_policy.specs.Places.{places_of}
use Rattle.quick_cache_policy.proofs.WrittenPlaces.{without-places}
use Rattle.quick_cache_policy.proofs.contents.Contents.remove_placeholder.Goals as goal

-- it is gone
pub returns-in_default-clause-gives_up : goal.returns-in_default-clause-gives_up
returns-in_default-clause-gives_up g c =
    let ticket_of = g.P.SharedPlaceholder.ticket_of in
    UpToOrder-exact _ _ (GivesUpPlaceholder.was_gone
    (HasNoTicket-state ticket_of c.args.self.now
    (g.P.SharedPlaceholder.own_ticket c.args.placeholder.now)
    (none-found _ _ c.in_default.not-Some c.find_placeholder.ensures)))

pub take-requires : goal.take-requires
take-requires g c =
    let found = c.in-Some.ensures in inr (inl (found.waiting, found.stands, found.named))

-- it was there, and goes
pub returns-clause-gives_up : goal.returns-clause-gives_up
returns-clause-gives_up g c =
    let ticket_of = g.P.SharedPlaceholder.ticket_of in
    let contents = c.args.self.now in
    let found = c.in-Some.ensures in
    let ticket = g.P.SharedPlaceholder.own_ticket c.args.placeholder.now in
    UpToOrder-exact _ _
    (subst (λ (l : Lists _ _ _). GivesUpPlaceholder ticket (state_of ticket_of contents)
    (state_with ticket_of contents l)) (sym c.take.ensures.rest)
    (left-gives_up ticket_of contents c.facts.ensures.apart (number c.in-Some.token) found.waiting
    found.stands found.named ticket found.passes))

pub returns-clause-sound : goal.returns-clause-sound
returns-clause-sound g c = λ hashed sound.
    let ticket_of = g.P.SharedPlaceholder.ticket_of in
    let contents = c.args.self.now in
    let found = c.in-Some.ensures in
    subst (λ (l : Lists _ _ _). IsSound ticket_of g.K.PartialEq.eq hashed
    (record contents { lists = l })) (sym c.take.ensures.rest)
    (left-sound ticket_of contents c.facts.ensures.apart (number c.in-Some.token) found.waiting
    found.stands found.named g.K.PartialEq.eq hashed sound)

pub returns-in_default-clause-places : goal.returns-in_default-clause-places
returns-in_default-clause-places g c = λ place there. there

pub returns-clause-places : goal.returns-clause-places
returns-clause-places g c = λ place there.
    without-places (number c.in-Some.token) c.args.self.now.lists place
    (subst (λ l. Contains (places_of l) place) c.take.ensures.rest there)
