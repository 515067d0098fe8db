use Rattle.std.proofs.Common.{◌≡◌, None, sym, ap, subst, ◌∙◌, arith}
use Rattle.std.specs.Int.NonZero.{non_zero_u32_get as number}
use Rattle.quick_cache_store.specs.Pool.{item_at, times}
use Rattle.quick_cache_store.specs.Stack.{slot_if, slots_past, IsNoted}
use Rattle.quick_cache_store.proofs.pool.AtTokens.{at_token-past}
use Rattle.quick_cache_store.proofs.pool.StackLemmas.{length-slots_past, slot_at, noted_at}
use Rattle.quick_cache_store.proofs.pool.Pool.get.Given.{Over}
use Rattle.quick_cache_store.proofs.pool.Pool.get.Goals as goal
use Rattle.quick_cache_store.proofs.pool.Pool.get.Goals.{After-occupant}

pub returns-then-at-len-clause-absent : goal.returns-then-at-len-clause-absent
returns-then-at-len-clause-absent g c =
    let i = c.self.inside in
    rw (← c.self.view_is) (at_token-past (slots_past i.free.items 0 i.items.items)
    (number c.args.token) None (omega (arith, length-slots_past i.free.items 0 i.items.items)))

pub occupant-requires : goal.occupant-requires
occupant-requires g c =
    let i = c.self.inside in
    let item = c.index.result.now in
    rw c.as_slice.ensures.value (subst
    (λ (x : g.row.T.Denot). IsNoted g.T.Blank.is_blank g.T.Blank.note_of i.free.items
    (number c.args.token) x) (sym c.index.ensures)
    (noted_at g.T.Blank.is_blank g.T.Blank.note_of i.free.items (number c.args.token)
    c.place-at.result i.items.items item c.place-at.ensures (omega arith)
    c.self.invariant.noted))

-- the slot of the token has what was looked at
slot-read : (g : Over) (c : After-occupant g)
    → item_at c.args.self.now (number c.args.token)
    ≡ slot_if (times (number c.args.token) c.as_slice.result.now) c.index.result.now
slot-read g c =
    let i = c.self.inside in
    let t = number c.args.token in
    rw (← c.self.view_is, c.as_slice.ensures.value) (slot_at i.free.items t c.place-at.result
    i.items.items c.index.result.now c.place-at.ensures (omega arith)
    ∙ ap (slot_if (times t i.free.items)) (sym c.index.ensures))

pub returns-clause-absent : goal.returns-clause-absent
returns-clause-absent g c = rw (slot-read g c) c.occupant.ensures.absent

pub returns-clause-item : goal.returns-clause-item
returns-clause-item g c = rw (slot-read g c) c.occupant.ensures.item
