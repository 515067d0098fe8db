use Rattle.std.proofs.Common.{◌∙◌, sym, ap, refl}
use Rattle.quick_cache_store.specs.Lists.{number_or_zero}
use Rattle.quick_cache_store.specs.ListSlots.{first_item}
use Rattle.quick_cache_store.proofs.lists.NextLemmas.{IsFirstAbove-none, IsFirstAbove-some, entries_from}
use Rattle.quick_cache_store.proofs.lists.lists.Lists.first_above.Goals as goal

pub loop-next-init : goal.loop-next-init
loop-next-init g c = refl

pub loop-next-preserved : goal.loop-next-preserved
loop-next-preserved g c =
    c.loop-next.invariant ∙ ap first_item c.in-Some.ensures.steps
    ∙ rw (sym c.is_item.ensures ∙ c.if-is_item.false) refl

pub returns-then-is_item : goal.returns-then-is_item
returns-then-is_item g c =
    let i = c.self.inside in
    let walk = ap first_item (sym (c.into_iter-next-iterator.ensures.into_iter_gives
    ∙ entries_from i.slots c.args.token c.iter_from-next-items.result
    c.iter_from-next-items.ensures)) in
    let first = walk ∙ c.loop-next.invariant ∙ ap first_item c.in-Some.ensures.steps
    ∙ rw (sym c.is_item.ensures ∙ c.if-is_item.true) refl in
    rw (← c.self.view_is) (IsFirstAbove-some i.slots i.index i.rings
    c.self.invariant.standing (number_or_zero c.args.token) c.in-Some.next first)

pub returns : goal.returns
returns g c =
    let i = c.self.inside in
    let walk = ap first_item (sym (c.into_iter-next-iterator.ensures.into_iter_gives
    ∙ entries_from i.slots c.args.token c.iter_from-next-items.result
    c.iter_from-next-items.ensures)) in
    let none = walk ∙ c.loop-next.invariant ∙ ap first_item c.in-None.ensures.steps.0 in
    rw (← c.self.view_is) (IsFirstAbove-none i.slots i.index i.rings
    c.self.invariant.standing (number_or_zero c.args.token) none)
