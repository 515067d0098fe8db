use Rattle.std.proofs.Common.{refl, ap, ◌∙◌}
use Rattle.std.specs.Int.NonZero.{non_zero_u32_get as number}
use Rattle.quick_cache_store.specs.Lists.{HeldItem}
use Rattle.quick_cache_store.specs.Views.{items_of}
use Rattle.quick_cache_store.proofs.lists.StandingLemmas.{found-same}
use Rattle.quick_cache_policy.proofs.FindLemmas.{none-found, HasNoItem-state, IsItemAt-stands}
use Rattle.quick_cache_policy.proofs.contents.Contents.peek.Goals as goal

-- no item was found
pub returns-in_default : goal.returns-in_default
returns-in_default g c =
    HasNoItem-state g.P.SharedPlaceholder.ticket_of (g.Q.Equivalent.equivalent c.args.query.now)
    c.args.hash c.args.self.now c.requires.under (none-found _ _ c.in_default.not-Some c.find_item.ensures)

-- the item of the token is the one that was found
pub returns : goal.returns
returns g c =
    let stands_for = g.Q.Equivalent.equivalent c.args.query.now in
    let t = number c.in-Some.token in
    let item = c.item.result in
    let has = c.item.ensures.1 in
    let passes = ap (λ (h : HeldItem g.row.K.Denot g.row.V.Denot). stands_for h.item.key)
    (found-same c.args.self.now.lists c.facts.ensures.apart t
    (record { token = t; hash = c.args.hash; item = c.in-Some.ensures.item })
    (record { token = t; hash = c.item.ensures.0; item = item }) c.in-Some.ensures.stands has refl
    refl) ∙ c.in-Some.ensures.passes in
    record {
      place = has.place;
      before = items_of has.stands.before;
      after = items_of has.stands.after;
      at = IsItemAt-stands g.P.SharedPlaceholder.ticket_of stands_for c.args.hash c.args.self.now
          has.place has.stands.before
          (record { token = t; hash = c.item.ensures.0; item = item }) has.stands.after
          has.stands.split passes;
    }
