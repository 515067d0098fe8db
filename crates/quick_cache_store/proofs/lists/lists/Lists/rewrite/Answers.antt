use Rattle.std.proofs.Common.{inl, refl, arith}
use Rattle.std.specs.Int.NonZero.{non_zero_u32_get as number}
use Rattle.quick_cache_store.specs.Pool.{item_at}
use Rattle.quick_cache_store.specs.declared.slots.entry.Entry.{Entry}
use Rattle.quick_cache_store.proofs.lists.ChangeLemmas.{written-by}
use Rattle.quick_cache_store.proofs.lists.RewriteLemmas.{item_at-token, no_placeholder, no_ghost, Rewrites-replaced, was_seen, queue_seen}
use Rattle.quick_cache_store.proofs.lists.RewriteLemmas.{can_reweigh-seen, IsSound-written, Rewrites-written}
use Rattle.quick_cache_store.proofs.lists.lists.Lists.rewrite.Goals as goal

pub replace-requires : goal.replace-requires
replace-requires g c = inl (_, c.item-item.ensures.1, refl)

-- what has the token is an item
pub unreachable-requires : goal.unreachable-requires
unreachable-requires g c =
    let i = c.self.inside in
    let replaces = rw (← c.self.view_is, c.in-Loading.is) at c.replace.ensures in
    no_placeholder i.slots i.index i.rings
    (number c.args.token) c.item-item.result
    (rw (← c.self.view_is) at c.item-item.ensures) replaces.hash _ replaces.taken

pub unreachable-requires-in-Ghost : goal.unreachable-requires-in-Ghost
unreachable-requires-in-Ghost g c =
    let i = c.self.inside in
    let replaces = rw (← c.self.view_is, c.in-Ghost.is) at c.replace.ensures in
    no_ghost i.slots i.index i.rings
    (number c.args.token) c.item-item.result
    (rw (← c.self.view_is) at c.item-item.ensures) replaces.hash replaces.taken

pub returns-then-was-weight : goal.returns-then-was-weight
returns-then-was-weight g c =
    let i = c.self.inside in
    let replaces = rw (← c.self.view_is, c.in-Item.is) at c.replace.ensures in
    rw (← c.self.view_is) (Rewrites-replaced i.slots i.index i.rings
    c.self.invariant.standing (number c.args.token) c.item-item.result
    (rw (← c.self.view_is) at c.item-item.ensures) c.replace.new.self c.weight-was.result
    c.weight-weight.result c.weight-was.ensures c.args.resident c.in-Item.old replaces
    c.weight-weight.ensures c.if-was-weight.true)

pub rewrite-old-requires : goal.rewrite-old-requires
rewrite-old-requires g c =
    let i = c.self.inside in
    let has = rw (← c.self.view_is) at c.item-item.ensures in (
      has.0,
      c.item-item.result,
      item_at-token i.slots i.index i.rings
          (number c.args.token) c.item-item.result has,
    )

pub reweigh-requires : goal.reweigh-requires
reweigh-requires g c =
    let i = c.self.inside in
    can_reweigh-seen i.slots i.index i.rings i.loading c.self.invariant
    (number c.args.token) c.item-item.result (rw (← c.self.view_is) at c.item-item.ensures)
    c.weight-was.result c.weight-weight.result c.stand-stand.result c.weight-was.ensures
    c.stand-stand.ensures (omega arith)

pub invariant_of-self : goal.invariant_of-self
invariant_of-self g c =
    let i = c.self.inside in
    let t = number c.args.token in
    let has = rw (← c.self.view_is) at c.item-item.ensures in
    let at = item_at-token i.slots i.index i.rings t
    c.item-item.result has in
    let now = written-by i.slots c.rewrite-old.new.self t has.0 c.item-item.result
    (λ _. c.args.resident) c.rewrite-old.ensures.writes at in
    let queue = queue_seen i.slots i.index i.rings i.loading c.self.invariant t
    c.item-item.result has c.args.resident.queue (rw (← c.self.view_is) at c.requires) in
    rw now (IsSound-written i.slots i.index i.rings i.loading c.self.invariant t
    c.item-item.result has c.weight-was.result c.weight-weight.result c.stand-stand.result
    c.weight-was.ensures c.stand-stand.ensures (omega arith) c.args.resident c.reweigh.new.self
    c.reweigh.ensures c.weight-weight.ensures queue c.if-was-weight.false)

pub returns : goal.returns
returns g c =
    let i = c.self.inside in
    let t = number c.args.token in
    let has = rw (← c.self.view_is) at c.item-item.ensures in
    let at = item_at-token i.slots i.index i.rings t
    c.item-item.result has in
    let now = written-by i.slots c.rewrite-old.new.self t has.0 c.item-item.result
    (λ _. c.args.resident) c.rewrite-old.ensures.writes at in
    let queue = queue_seen i.slots i.index i.rings i.loading c.self.invariant t
    c.item-item.result has c.args.resident.queue (rw (← c.self.view_is) at c.requires) in
    let was = c.rewrite-old.ensures.old in
    let old = was_seen (item_at i.slots t)
    (record { hash = was.0; entry = Entry.Item c.rewrite-old.result }) has.0
    c.item-item.result c.rewrite-old.result at was.1 refl in
    rw (← c.self.view_is, ← old, now) (Rewrites-written i.slots i.index i.rings i.loading
    c.self.invariant t c.item-item.result has c.weight-was.result
    c.weight-weight.result c.stand-stand.result c.weight-was.ensures c.stand-stand.ensures
    (omega arith) c.args.resident c.reweigh.new.self c.reweigh.ensures c.weight-weight.ensures
    queue c.if-was-weight.false)
