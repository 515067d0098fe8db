use Rattle.std.specs.Int.NonZero.{non_zero_u32_get as number}
use Rattle.quick_cache_store.proofs.lists.AwaitedLemmas.{IsItemOf-shown}
use Rattle.quick_cache_store.proofs.lists.ItemLemmas.{item_by_token}
use Rattle.quick_cache_store.proofs.lists.lists.Lists.item_at.Goals as goal

-- a slot that is empty has no item
pub returns-in_err-get : goal.returns-in_err-get
returns-in_err-get g c =
    let i = c.self.inside in
    rw c.from_residual.ensures (λ has.
    let at = item_by_token i.slots i.index i.rings
    (number c.args.token) (rw (← c.self.view_is) at has) in
    absurd (cc (at.2, c.in_err-get.ensures.absent)))

pub returns : goal.returns
returns g c =
    let i = c.self.inside in
    rw (← c.self.view_is) (IsItemOf-shown i.slots i.index i.rings
    c.self.invariant.standing (number c.args.token) c.in_ok-get.field-0
    c.in_ok-get.ensures.item c.as_item.result c.as_item.ensures)
