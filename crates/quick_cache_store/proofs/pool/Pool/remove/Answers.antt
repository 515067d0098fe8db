use Rattle.std.proofs.Common.{sym, ap, ◌∙◌, vec_len, vec_capacity, length-set, Some, arith}
use Rattle.std.specs.Int.NonZero.{non_zero_u32_get as number}
use Rattle.quick_cache_store.proofs.pool.StackLemmas.{occupied_within, occupied_apart, occupied_item, free_few, free_fewer, IsSound-freed}
use Rattle.quick_cache_store.proofs.pool.StackLemmas.{view-freed, IsParted-stack}
use Rattle.quick_cache_store.proofs.pool.Pool.remove.Goals as goal

pub overflow_cast-len : goal.overflow_cast-len
overflow_cast-len g c =
    let i = c.self.inside in
    let few = free_few g.T.Blank.is_blank g.T.Blank.note_of i.items.items i.free.items _
    c.self.invariant in
    let all = c.self.invariant.few in
    omega arith

-- fewer tokens are free than there are slots, and each slot has room for its token
pub push_reserved-requires : goal.push_reserved-requires
push_reserved-requires g c =
    let i = c.self.inside in
    let t = number c.args.token in
    let some = rw (← c.self.view_is) at c.requires in
    let within = occupied_within i.free.items t i.items.items some in
    let fewer = free_fewer g.T.Blank.is_blank g.T.Blank.note_of i.items.items i.free.items _ t
    within.0 within.1 (occupied_apart i.free.items t i.items.items some) c.self.invariant in
    let room = c.self.invariant.room in
    omega arith

pub index_mut-requires : goal.index_mut-requires
index_mut-requires g c =
    let i = c.self.inside in
    let some = rw (← c.self.view_is) at c.requires in
    let within = occupied_within i.free.items (number c.args.token) i.items.items some in
    omega (arith, within.1)

pub invariant_of-self : goal.invariant_of-self
invariant_of-self g c =
    let i = c.self.inside in
    let t = number c.args.token in
    let some = rw (← c.self.view_is) at c.requires in
    let within = occupied_within i.free.items t i.items.items some in
    rw (
      c.push_reserved.ensures.capacity,
      c.push_reserved.ensures.items,
      c.get.ensures.value,
      c.replace.ensures.after,
    ) (IsSound-freed g.T.Blank.is_blank g.T.Blank.note_of i.items.items i.free.items
    (vec_capacity i.free) t c.place.result c.blank-blank.result c.place.ensures within.1
    (occupied_apart i.free.items t i.items.items some) c.blank-blank.ensures.blank
    (omega (arith, c.blank-blank.ensures.note)) c.self.invariant)

pub returns-clause-item : goal.returns-clause-item
returns-clause-item g c =
    let i = c.self.inside in
    let some = rw (← c.self.view_is) at c.requires in
    rw (← c.self.view_is) (occupied_item i.free.items (number c.args.token) c.place.result
    i.items.items c.index_mut.result.now c.place.ensures some
    ∙ ap Some (sym (c.replace.ensures.value ∙ c.index_mut.ensures.value)))

pub returns-clause-removed : goal.returns-clause-removed
returns-clause-removed g c =
    let i = c.self.inside in
    rw (
      ← c.self.view_is,
      c.push_reserved.ensures.items,
      c.get.ensures.value,
      c.push_reserved.ensures.capacity,
    ) (view-freed g.T.Blank.is_blank g.T.Blank.note_of
    i.items.items i.free.items _ (number c.args.token) c.place.result _ c.place.ensures)

pub returns-clause-parted : goal.returns-clause-parted
returns-clause-parted g c =
    let i = c.self.inside in
    let pushed = c.push_reserved.new.self in
    let long = length-set i.items.items c.place.result c.replace.new.dest in
    IsParted-stack g.T.Blank.is_blank g.T.Blank.note_of _ pushed.items (vec_capacity i.items)
    (vec_capacity pushed) (vec_len i.items) (omega arith) (invariant_of-self g c)
