use Rattle.std.proofs.Common.{refl, sym, ap, ◌∙◌, Some, vec_len, vec_capacity, arith}
use Rattle.std.specs.Int.NonZero.{non_zero_u32_get as number}
use Rattle.quick_cache_store.specs.Stack.{room_of}
use Rattle.quick_cache_store.proofs.pool.StackLemmas.{occupied_within, occupied_apart, occupied_item, IsSound-written, view-written}
use Rattle.quick_cache_store.proofs.pool.Pool.item_mut.Goals as goal

pub index_mut-requires : goal.index_mut-requires
index_mut-requires g c =
    let i = c.self.inside in
    let some = rw (← c.self.view_is) at c.requires in
    let within = occupied_within i.free.items (number c.args.token) i.items.items some in
    omega (arith, within.1)

pub invariant_of-self-lent : goal.invariant_of-self-lent
invariant_of-self-lent g c w =
    let i = c.self.inside in
    let t = number c.args.token in
    let some = rw (← c.self.view_is) at c.requires in
    IsSound-written g.T.Blank.is_blank g.T.Blank.note_of i.items.items i.free.items
    (vec_capacity i.free) t c.place.result w c.place.ensures
    (occupied_apart i.free.items t i.items.items some) c.self.invariant

pub returns : goal.returns
returns g c =
    let i = c.self.inside in
    let t = number c.args.token in
    let some = rw (← c.self.view_is) at c.requires in
    let view = λ (w : g.row.T.Denot). view-written g.T.Blank.is_blank g.T.Blank.note_of
    i.items.items i.free.items (room_of (vec_capacity i.items) (vec_capacity i.free)
    (vec_len i.items)) t c.place.result w c.place.ensures
    (occupied_apart i.free.items t i.items.items some) in (
      (refl, λ w. rw (← c.self.view_is) (view w)),
      record {
        writes_back = tt;
        item = rw (← c.self.view_is) (occupied_item i.free.items t c.place.result i.items.items
            c.index_mut.result.now c.place.ensures some
            ∙ ap Some (sym c.index_mut.ensures.value));
      },
    )
