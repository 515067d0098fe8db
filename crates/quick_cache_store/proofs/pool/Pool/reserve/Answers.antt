use Rattle.std.proofs.Common.{◌≤◌, ◌-◌, length, refl, vec_len, vec_capacity, arith}
use Rattle.std.proofs.lemmas.List.{length-reverse}
use Rattle.quick_cache_store.specs.Stack.{room_of}
use Rattle.quick_cache_store.proofs.pool.StackLemmas.{length-slots_past, free_few, IsSound-roomier, IsParted-stack, wanted_room}
use Rattle.quick_cache_store.proofs.pool.StackLemmas.{room_at_most}
use Rattle.quick_cache_store.proofs.pool.Pool.reserve.Goals as goal

pub overflow_sub-tokens : goal.overflow_sub-tokens
overflow_sub-tokens g c =
    let i = c.self.inside in
    let few = free_few g.T.Blank.is_blank g.T.Blank.note_of i.items.items i.free.items _
    c.self.invariant in
    omega arith

pub returns-in_default-clause-parted : goal.returns-in_default-clause-parted
returns-in_default-clause-parted g c =
    let i = c.self.inside in
    let tokens = c.make_room.new.items in
    IsParted-stack g.T.Blank.is_blank g.T.Blank.note_of i.items.items tokens.items
    (vec_capacity i.items) (vec_capacity tokens) (vec_len i.items) (omega arith)
    (IsSound-roomier g.T.Blank.is_blank g.T.Blank.note_of _ _ _ _ (vec_capacity i.free) _ refl
    c.make_room.ensures.items c.make_room.ensures.capacity c.self.invariant)

pub returns-in_default-clause-succeeds : goal.returns-in_default-clause-succeeds
returns-in_default-clause-succeeds g c =
    let i = c.self.inside in
    let s = c.self.invariant in
    let back = length-reverse i.free.items in
    let long = length-slots_past i.free.items 0 i.items.items in
    let free = rw (← c.self.view_is) at c.free_up_to.ensures in
    rw (← c.self.view_is) (λ enough.
    let room = wanted_room c.args.additional (vec_len i.free) (vec_len i.items) c.min.result
    (room_of (vec_capacity i.items) (vec_capacity i.free) (vec_len i.items)) (omega arith)
    (omega arith) in
    let ok = (c.in_default.ensures.had_room (omega (arith, s.room))).0 in
    absurd (cc))

pub returns-in_default-make_room-clause-parted : goal.returns-in_default-make_room-clause-parted
returns-in_default-make_room-clause-parted g c =
    let i = c.self.inside in
    let tokens = c.make_room.new.items in
    let items = c.make_room-2.new.items in
    IsParted-stack g.T.Blank.is_blank g.T.Blank.note_of items.items tokens.items
    (vec_capacity items) (vec_capacity tokens) (vec_len items) (omega arith)
    (IsSound-roomier g.T.Blank.is_blank g.T.Blank.note_of _ _ _ _ (vec_capacity i.free) _
    c.make_room-2.ensures.items c.make_room.ensures.items c.make_room.ensures.capacity
    c.self.invariant)

pub returns-in_default-make_room-clause-succeeds : goal.returns-in_default-make_room-clause-succeeds
returns-in_default-make_room-clause-succeeds g c =
    let i = c.self.inside in
    let s = c.self.invariant in
    let back = length-reverse i.free.items in
    let long = length-slots_past i.free.items 0 i.items.items in
    let free = rw (← c.self.view_is) at c.free_up_to.ensures in
    rw (← c.self.view_is) (λ enough.
    let room = wanted_room c.args.additional (vec_len i.free) (vec_len i.items) c.min.result
    (room_of (vec_capacity i.items) (vec_capacity i.free) (vec_len i.items)) (omega arith)
    (omega arith) in
    let ok = (c.in_default-make_room.ensures.had_room (omega (arith, s.room))).0 in
    absurd (cc))

pub returns-clause-room : goal.returns-clause-room
returns-clause-room g c =
    let i = c.self.inside in
    let back = length-reverse i.free.items in
    let tokens = c.make_room.ensures.items in
    let again = length-reverse c.make_room.new.items.items in
    let long = length-slots_past i.free.items 0 i.items.items in
    let free = rw (← c.self.view_is) at c.free_up_to.ensures in
    let room = c.in-Ok.ensures.ok in
    let more = c.in-Ok-make_room.ensures.ok in
    rw (← c.self.view_is, tokens) (omega arith)

pub returns-clause-at_most : goal.returns-clause-at_most
returns-clause-at_most g c =
    let i = c.self.inside in
    let few = free_few g.T.Blank.is_blank g.T.Blank.note_of i.items.items i.free.items _
    c.self.invariant in
    let back = length-reverse i.free.items in
    let long = length-slots_past i.free.items 0 i.items.items in
    let free = rw (← c.self.view_is) at c.free_up_to.ensures in
    let wanted : c.min.result ≤ c.args.additional - vec_len i.free = omega arith in
    let bound = room_at_most (vec_len i.items) (length i.items.items) (vec_len i.free)
    (length i.free.items) c.args.additional c.min.result (vec_capacity i.items)
    (vec_capacity i.free) (vec_capacity c.make_room-2.new.items)
    (vec_capacity c.make_room.new.items) (omega arith) (omega arith) (omega arith) wanted
    (omega (arith, c.make_room-2.ensures.at_most)) (omega (arith, c.make_room.ensures.at_most)) in
    rw (← c.self.view_is, long, back, c.make_room-2.ensures.len) bound

pub returns-clause-parted : goal.returns-clause-parted
returns-clause-parted g c =
    let i = c.self.inside in
    let tokens = c.make_room.new.items in
    let items = c.make_room-2.new.items in
    IsParted-stack g.T.Blank.is_blank g.T.Blank.note_of items.items tokens.items
    (vec_capacity items) (vec_capacity tokens) (vec_len items) (omega arith)
    (IsSound-roomier g.T.Blank.is_blank g.T.Blank.note_of _ _ _ _ (vec_capacity i.free) _
    c.make_room-2.ensures.items c.make_room.ensures.items c.make_room.ensures.capacity
    c.self.invariant)

pub returns-clause-succeeds : goal.returns-clause-succeeds
returns-clause-succeeds g c =
    let i = c.self.inside in
    let s = c.self.invariant in
    let back = length-reverse i.free.items in
    let long = length-slots_past i.free.items 0 i.items.items in
    let free = rw (← c.self.view_is) at c.free_up_to.ensures in
    rw (← c.self.view_is) (λ enough.
    let room = wanted_room c.args.additional (vec_len i.free) (vec_len i.items) c.min.result
    (room_of (vec_capacity i.items) (vec_capacity i.free) (vec_len i.items)) (omega arith)
    (omega arith) in
    let tokens = (c.make_room.ensures.had_room (omega (arith, s.room))).1 in
    let items = (c.make_room-2.ensures.had_room (omega (arith, s.room))).1 in (
      refl,
      rw (
        c.make_room-2.ensures.items,
        c.make_room.ensures.items,
        items,
        tokens,
        c.make_room-2.ensures.len,
      ) refl,
    ))
