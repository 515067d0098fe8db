use Rattle.std.proofs.Common.{false, Some, None, refl, sym, ap, subst, ◌∙◌, inl, inr}
use Rattle.std.specs.Int.NonZero.{non_zero_u32_get as number}
use Rattle.quick_cache_model.specs.CacheState.{Item}
use Rattle.quick_cache_model.specs.Removal.{Removes}
use Rattle.quick_cache_model.proofs.OrderLaws.{UpToOrder-exact}
use Rattle.quick_cache_store.specs.Lists.{HeldItem, Lists, without_entry}
use Rattle.quick_cache_store.proofs.lists.StandingLemmas.{not-loading, not-ghost, entry-is_item}
use Rattle.quick_cache_policy.specs.Contents.{IsSound, state_of}
use Rattle.quick_cache_policy.proofs.EnterLemmas.{state_with}
use Rattle.quick_cache_policy.proofs.FindLemmas.{HasNothing-state}
use Rattle.quick_cache_policy.proofs.LookupLemmas.{removes-item, item-sound, removes-loading, loading-sound, removes-ghost, ghost-sound}
use Rattle.std.specs.List.{Contains}
use Rattle.quick_cache_policy.specs.Places.{places_of}
use Rattle.quick_cache_policy.proofs.WrittenPlaces.{without-places}
use Rattle.quick_cache_policy.proofs.contents.Contents.remove.Goals as goal

pub take_found-slot-requires : goal.take_found-slot-requires
take_found-slot-requires g c = (_, c.in-Item.ensures.stands)

-- what has the token of an item is an item
pub unreachable-requires : goal.unreachable-requires
unreachable-requires g c =
    not-loading c.args.self.now.lists c.facts.ensures.apart (number c.in-Item.token)
    c.take_found-slot.result.hash c.take_found-slot.result.entry c.take_found-slot.ensures.taken _
    c.in-Item.ensures.stands refl c.in-Loading-entry.field-0 c.in-Loading-entry.is

pub unreachable-requires-in-Ghost-entry : goal.unreachable-requires-in-Ghost-entry
unreachable-requires-in-Ghost-entry g c =
    not-ghost c.args.self.now.lists c.facts.ensures.apart (number c.in-Item.token)
    c.take_found-slot.result.hash c.take_found-slot.result.entry c.take_found-slot.ensures.taken _
    c.in-Item.ensures.stands refl c.in-Ghost-entry.is

pub take-requires : goal.take-requires
take-requires g c = inr (inl (
  c.in-Loading.ensures.waiting,
  c.in-Loading.ensures.stands,
  c.in-Loading.ensures.named,
))

pub returns-in-Item-entry-clause-removes : goal.returns-in-Item-entry-clause-removes
returns-in-Item-entry-clause-removes g c =
    let ticket_of = g.P.SharedPlaceholder.ticket_of in
    let contents = c.args.self.now in
    let stands_for = g.Q.Equivalent.equivalent c.args.query.now in
    let t = number c.in-Item.token in
    let found = c.in-Item.ensures in
    let held : HeldItem _ _ = record { token = t; hash = c.args.hash; item = found.item } in
    let same = entry-is_item contents.lists c.facts.ensures.apart t c.take_found-slot.result.hash
    c.take_found-slot.result.entry c.take_found-slot.ensures.taken held found.stands refl
    c.in-Item-entry.item c.in-Item-entry.is in
    let answer = c.into_pair.ensures
    ∙ ap (λ (i : Item _ _). (i.key, i.value)) c.in-Item-entry.item-is
    ∙ ap (λ (h : HeldItem _ _). (h.item.key, h.item.value)) same in
    UpToOrder-exact _ _
    (subst (λ (l : Lists _ _ _). Removes stands_for (state_of ticket_of contents) c.args.hash
    (Some c.into_pair.result) (state_with ticket_of contents l)) (sym c.take_found-slot.ensures.rest)
    (subst (λ pair. Removes stands_for (state_of ticket_of contents) c.args.hash (Some pair)
    (state_with ticket_of contents (without_entry false t contents.lists))) (sym answer)
    (removes-item ticket_of contents c.facts.ensures.apart stands_for c.args.hash t held
    found.stands refl found.passes)))

pub returns-in-Item-entry-clause-sound : goal.returns-in-Item-entry-clause-sound
returns-in-Item-entry-clause-sound g c = λ hashed sound.
    let ticket_of = g.P.SharedPlaceholder.ticket_of in
    let contents = c.args.self.now in
    let stands_for = g.Q.Equivalent.equivalent c.args.query.now in
    let t = number c.in-Item.token in
    let found = c.in-Item.ensures in
    subst (λ (l : Lists _ _ _). IsSound ticket_of g.K.PartialEq.eq hashed
    (record contents { lists = l })) (sym c.take_found-slot.ensures.rest)
    (item-sound ticket_of contents c.facts.ensures.apart stands_for c.args.hash t _ found.stands
    refl g.K.PartialEq.eq found.passes hashed sound)

pub returns-in-Loading-clause-removes : goal.returns-in-Loading-clause-removes
returns-in-Loading-clause-removes g c =
    let ticket_of = g.P.SharedPlaceholder.ticket_of in
    let contents = c.args.self.now in
    let stands_for = g.Q.Equivalent.equivalent c.args.query.now in
    let found = c.in-Loading.ensures in
    UpToOrder-exact _ _
    (subst (λ (l : Lists _ _ _). Removes stands_for (state_of ticket_of contents) c.args.hash
    None (state_with ticket_of contents l)) (sym c.take.ensures.rest)
    (removes-loading ticket_of contents c.facts.ensures.apart stands_for c.args.hash
    (number c.in-Loading.token) found.waiting found.stands found.named found.passes))

pub returns-in-Loading-clause-sound : goal.returns-in-Loading-clause-sound
returns-in-Loading-clause-sound g c = λ hashed sound.
    let ticket_of = g.P.SharedPlaceholder.ticket_of in
    let contents = c.args.self.now in
    let stands_for = g.Q.Equivalent.equivalent c.args.query.now in
    let found = c.in-Loading.ensures in
    subst (λ (l : Lists _ _ _). IsSound ticket_of g.K.PartialEq.eq hashed
    (record contents { lists = l })) (sym c.take.ensures.rest)
    (loading-sound ticket_of contents c.facts.ensures.apart stands_for c.args.hash
    (number c.in-Loading.token) found.waiting found.stands found.named g.K.PartialEq.eq
    found.passes hashed sound)

pub returns-in-Ghost-clause-removes : goal.returns-in-Ghost-clause-removes
returns-in-Ghost-clause-removes g c =
    let ticket_of = g.P.SharedPlaceholder.ticket_of in
    let contents = c.args.self.now in
    let stands_for = g.Q.Equivalent.equivalent c.args.query.now in
    let found = c.in-Ghost.ensures in
    UpToOrder-exact _ _
    (subst (λ (l : Lists _ _ _). Removes stands_for (state_of ticket_of contents) c.args.hash
    None (state_with ticket_of contents l)) (sym c.take-in-Ghost.ensures.rest)
    (removes-ghost ticket_of contents c.facts.ensures.apart stands_for c.args.hash
    (number c.in-Ghost.token) found.1 c.requires.under found.0))

pub returns-in-Ghost-clause-sound : goal.returns-in-Ghost-clause-sound
returns-in-Ghost-clause-sound g c = λ hashed sound.
    let ticket_of = g.P.SharedPlaceholder.ticket_of in
    let contents = c.args.self.now in
    let stands_for = g.Q.Equivalent.equivalent c.args.query.now in
    let found = c.in-Ghost.ensures in
    subst (λ (l : Lists _ _ _). IsSound ticket_of g.K.PartialEq.eq hashed
    (record contents { lists = l })) (sym c.take-in-Ghost.ensures.rest)
    (ghost-sound ticket_of contents c.facts.ensures.apart stands_for c.args.hash
    (number c.in-Ghost.token) found.1 g.K.PartialEq.eq c.requires.under found.0 hashed sound)

pub returns-in-Nothing-clause-removes : goal.returns-in-Nothing-clause-removes
returns-in-Nothing-clause-removes g c =
    UpToOrder-exact _ _ (Removes.of_nothing (HasNothing-state g.P.SharedPlaceholder.ticket_of
    (g.Q.Equivalent.equivalent c.args.query.now) c.args.hash c.args.self.now c.requires.under
    c.in-Nothing.ensures))

pub returns-in-Item-entry-clause-places : goal.returns-in-Item-entry-clause-places
returns-in-Item-entry-clause-places g c = λ place there.
    without-places (number c.in-Item.token) c.args.self.now.lists place
    (subst (λ l. Contains (places_of l) place) c.take_found-slot.ensures.rest there)

pub returns-in-Loading-clause-places : goal.returns-in-Loading-clause-places
returns-in-Loading-clause-places g c = λ place there.
    without-places (number c.in-Loading.token) c.args.self.now.lists place
    (subst (λ l. Contains (places_of l) place) c.take.ensures.rest there)

pub returns-in-Ghost-clause-places : goal.returns-in-Ghost-clause-places
returns-in-Ghost-clause-places g c = λ place there.
    without-places (number c.in-Ghost.token) c.args.self.now.lists place
    (subst (λ l. Contains (places_of l) place) c.take-in-Ghost.ensures.rest there)

pub returns-in-Nothing-clause-places : goal.returns-in-Nothing-clause-places
returns-in-Nothing-clause-places g c = λ place there. there
