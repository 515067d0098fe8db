use Rattle.std.proofs.Common.{◌≡◌, false, true≢false, refl, sym, ap, ◌∙◌}
use Rattle.std.specs.Int.NonZero.{non_zero_u32_get as number}
use Rattle.quick_cache_store.specs.Lists.{HeldItem}
use Rattle.quick_cache_store.proofs.lists.StandingLemmas.{found-same}
use Rattle.quick_cache_policy.proofs.FindLemmas.{none-found}
use Rattle.quick_cache_policy.proofs.contents.Contents.item_if_under.Goals as goal

-- no item stands there
pub returns-in_default : goal.returns-in_default
returns-in_default g c = λ finds.
    none-found _ _ c.in_default.not-Some c.item_at.ensures (_, finds.1.stands, refl)

-- the item of the token is the one whose key was compared
pub returns : goal.returns
returns g c = λ finds.
    let stands_for = g.Q.Equivalent.equivalent c.args.query.now in
    let t = number c.args.token in
    let is = c.in-Some.ensures in
    let same = found-same c.args.self.now.lists c.facts.ensures.apart t
    (record { token = t; hash = finds.0; item = finds.1.item })
    (record { token = t; hash = is.0; item = c.in-Some.item }) finds.1.stands is.1 refl refl in
    let fails : stands_for c.in-Some.item.key ≡ false =
    sym (c.equivalent.ensures ∙ ap stands_for c.key.ensures) ∙ c.if-equivalent.false in
    true≢false (sym finds.1.passes
    ∙ sym (ap (λ (h : HeldItem _ _). stands_for h.item.key) same) ∙ fails)
