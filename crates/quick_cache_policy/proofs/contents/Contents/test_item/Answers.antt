use Rattle.std.proofs.Common.{refl, ap, subst, ◌∙◌}
use Rattle.std.specs.Fn.{FnOnceReturnsAt}
use Rattle.std.specs.Int.NonZero.{non_zero_u32_get as number}
use Rattle.std.proofs.lemmas.Fn.{gave_at}
use Rattle.quick_cache_store.specs.Lists.{HeldItem}
use Rattle.quick_cache_store.specs.Views.{items_of}
use Rattle.quick_cache_store.proofs.lists.StandingLemmas.{found-same}
use Rattle.quick_cache_policy.proofs.FindLemmas.{none-found, HasNoItem-state, IsItemAt-stands}
use Rattle.quick_cache_policy.proofs.contents.Contents.test_item.Goals as goal

-- no item was found
pub returns-in_default : goal.returns-in_default
returns-in_default g c =
    HasNoItem-state g.P.SharedPlaceholder.ticket_of (g.Q.Equivalent.equivalent c.args.query.now)
    c.args.hash c.args.self.now c.requires.under
    (none-found _ _ c.in_default.not-Some c.find_item.ensures)

-- it is asked of the item that was found
pub test-requires : goal.test-requires
test-requires g c =
    let contents = c.args.self.now in
    let stands_for = g.Q.Equivalent.equivalent c.args.query.now in
    let t = number c.in-Some.token in
    let held : HeldItem g.row.K.Denot g.row.V.Denot =
    record { token = t; hash = c.item.ensures.0; item = c.item.result } in
    let has = c.item.ensures.1 in
    let passes = ap (λ (h : HeldItem g.row.K.Denot g.row.V.Denot). stands_for h.item.key)
    (found-same contents.lists c.facts.ensures.apart t
    (record { token = t; hash = c.args.hash; item = c.in-Some.ensures.item }) held
    c.in-Some.ensures.stands has refl refl) ∙ c.in-Some.ensures.passes in
    c.requires.callable has.place (items_of has.stands.before) c.item.result
    (items_of has.stands.after)
    (IsItemAt-stands g.P.SharedPlaceholder.ticket_of stands_for c.args.hash contents has.place
    has.stands.before held has.stands.after has.stands.split passes) c.value.result c.value.ensures

-- the value that was shown is that of the item that was found
pub returns : goal.returns
returns g c =
    let contents = c.args.self.now in
    let t = number c.in-Some.token in
    let shown = ap (λ (h : HeldItem g.row.K.Denot g.row.V.Denot). h.item.value)
    (found-same contents.lists c.facts.ensures.apart t
    (record { token = t; hash = c.args.hash; item = c.in-Some.ensures.item })
    (record { token = t; hash = c.item.ensures.0; item = c.item.result })
    c.in-Some.ensures.stands c.item.ensures.1 refl refl) in
    record {
      finds = c.in-Some.ensures;
      said = subst (λ value. FnOnceReturnsAt g.F.FnOnce c.args.test value c.test.result)
          (c.value.ensures ∙ shown) (gave_at g.F.FnOnce c.test.ensures refl);
    }
