use Rattle.std.proofs.Common.{refl, arith}
use Rattle.std.specs.Int.NonZero.{non_zero_u32_get as number}
use Rattle.quick_cache_store.specs.Lists.{with_weight}
use Rattle.quick_cache_store.proofs.lists.ChangeLemmas.{written-by}
use Rattle.quick_cache_store.proofs.lists.RewriteLemmas.{item_at-token, Reweighs-requeued, can_reweigh-seen, IsSound-written}
use Rattle.quick_cache_store.proofs.lists.RewriteLemmas.{Rewrites-written}
use Rattle.quick_cache_store.proofs.lists.lists.Lists.reweigh.Goals as goal

pub returns-then-was-weight : goal.returns-then-was-weight
returns-then-was-weight g c =
    let i = c.self.inside in
    rw (← c.self.view_is) (Reweighs-requeued i.slots i.index i.rings
    c.self.invariant.standing (number c.args.token) c.item-item.result
    (rw (← c.self.view_is) at c.item-item.ensures) c.requeue.new.self c.weight-was.result
    c.args.weight c.weight-was.ensures c.queue-queue.result c.mark-mark.result
    c.queue-queue.ensures c.mark-mark.ensures (rw (← c.self.view_is) at c.requeue.ensures)
    c.if-was-weight.true)

pub set_weight-requires : goal.set_weight-requires
set_weight-requires g c =
    let i = c.self.inside in
    let has = rw (← c.self.view_is) at c.item-item.ensures in (
      has.0,
      c.item-item.result,
      item_at-token i.slots i.index i.rings
          (number c.args.token) c.item-item.result has,
    )

pub reweigh-requires : goal.reweigh-requires
reweigh-requires g c =
    let i = c.self.inside in
    can_reweigh-seen i.slots i.index i.rings i.loading c.self.invariant
    (number c.args.token) c.item-item.result (rw (← c.self.view_is) at c.item-item.ensures)
    c.weight-was.result c.args.weight c.stand-stand.result c.weight-was.ensures
    c.stand-stand.ensures (omega arith)

pub invariant_of-self : goal.invariant_of-self
invariant_of-self g c =
    let i = c.self.inside in
    let t = number c.args.token in
    let has = rw (← c.self.view_is) at c.item-item.ensures in
    let at = item_at-token i.slots i.index i.rings t
    c.item-item.result has in
    let now = written-by i.slots c.set_weight.new.self t has.0 c.item-item.result
    (with_weight c.args.weight) c.set_weight.ensures at in
    rw now (IsSound-written i.slots i.index i.rings i.loading c.self.invariant t
    c.item-item.result has c.weight-was.result c.args.weight c.stand-stand.result
    c.weight-was.ensures c.stand-stand.ensures (omega arith)
    (with_weight c.args.weight c.item-item.result) c.reweigh.new.self c.reweigh.ensures refl
    refl c.if-was-weight.false)

pub returns : goal.returns
returns g c =
    let i = c.self.inside in
    let t = number c.args.token in
    let has = rw (← c.self.view_is) at c.item-item.ensures in
    let at = item_at-token i.slots i.index i.rings t
    c.item-item.result has in
    let now = written-by i.slots c.set_weight.new.self t has.0 c.item-item.result
    (with_weight c.args.weight) c.set_weight.ensures at in
    rw (← c.self.view_is, now) (
      c.item-item.result,
      Rewrites-written i.slots i.index i.rings
          i.loading c.self.invariant t c.item-item.result has
          c.weight-was.result c.args.weight c.stand-stand.result c.weight-was.ensures
          c.stand-stand.ensures (omega arith) (with_weight c.args.weight c.item-item.result)
          c.reweigh.new.self c.reweigh.ensures refl refl c.if-was-weight.false,
    )
