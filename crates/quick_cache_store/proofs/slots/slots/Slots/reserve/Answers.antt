use Rattle.std.proofs.Common.{length, refl, ap, arith}
use Rattle.quick_cache_store.specs.Asides.{besides_of, room_of}
use Rattle.quick_cache_store.specs.Joined.{joined}
use Rattle.quick_cache_store.proofs.slots.JoinedEdits.{IsParted-joined, length-joined_slots, slots_kept, free_kept}
use Rattle.quick_cache_store.proofs.slots.slots.Slots.reserve.Goals as goal

pub returns-in_err-reserve-clause-parted : goal.returns-in_err-reserve-clause-parted
returns-in_err-reserve-clause-parted g c =
    let asides = c.self.inside.asides in
    IsParted-joined c.reserve.new.self (besides_of asides)
    (room_of asides)
    (rw (slots_kept c.self.inside.pool c.reserve.new.self c.reserve.ensures.kept)
    c.self.invariant.beside) c.reserve.ensures.parted

pub returns-in_err-reserve-clause-succeeds : goal.returns-in_err-reserve-clause-succeeds
returns-in_err-reserve-clause-succeeds g c =
    let long = length-joined_slots c.self.inside.pool.slots (besides_of c.self.inside.asides)
    c.self.invariant.beside in
    rw (← c.self.view_is, long) (λ enough.
    let ok = rw c.in_err-reserve.was at (c.reserve.ensures.succeeds (omega arith)).0 in
    absurd (cc))

pub returns-clause-parted : goal.returns-clause-parted
returns-clause-parted g c =
    let grown = c.reserve-2.new.self in
    IsParted-joined c.reserve.new.self (besides_of grown) (room_of grown)
    (rw (
      slots_kept c.self.inside.pool c.reserve.new.self c.reserve.ensures.kept,
      c.reserve-2.ensures.items,
    ) c.self.invariant.beside) c.reserve.ensures.parted

-- one of both grew no further than is told, or both stay as they were
pub returns-in_err-reserve-clause-at_most : goal.returns-in_err-reserve-clause-at_most
returns-in_err-reserve-clause-at_most g c =
    let long = length-joined_slots c.self.inside.pool.slots (besides_of c.self.inside.asides)
    c.self.invariant.beside in
    let more = c.reserve.ensures.at_most in
    rw (← c.self.view_is, long) (omega arith)

pub returns-in_err-reserve-2-clause-parted : goal.returns-in_err-reserve-2-clause-parted
returns-in_err-reserve-2-clause-parted g c =
    let grown = c.reserve-2.new.self in
    IsParted-joined c.reserve.new.self (besides_of grown) (room_of grown)
    (rw (
      slots_kept c.self.inside.pool c.reserve.new.self c.reserve.ensures.kept,
      c.reserve-2.ensures.items,
    ) c.self.invariant.beside) c.reserve.ensures.parted

pub returns-in_err-reserve-2-clause-at_most : goal.returns-in_err-reserve-2-clause-at_most
returns-in_err-reserve-2-clause-at_most g c =
    let long = length-joined_slots c.self.inside.pool.slots (besides_of c.self.inside.asides)
    c.self.invariant.beside in
    let beside = c.self.invariant.beside in
    let more = c.reserve.ensures.at_most in
    let also = c.reserve-2.ensures.at_most in
    rw (← c.self.view_is, long) (omega arith)

-- where there was room the second list had it too
pub returns-in_err-reserve-2-clause-succeeds : goal.returns-in_err-reserve-2-clause-succeeds
returns-in_err-reserve-2-clause-succeeds g c =
    let beside = c.self.invariant.beside in
    let long = length-joined_slots c.self.inside.pool.slots (besides_of c.self.inside.asides)
    c.self.invariant.beside in
    rw (← c.self.view_is, long) (λ enough.
    let ok = rw c.in_err-reserve-2.was at (c.reserve-2.ensures.had_room (omega arith)).0 in
    absurd (cc))

pub returns-clause-room : goal.returns-clause-room
returns-clause-room g c =
    let pool = c.self.inside.pool in
    let beside = c.self.invariant.beside in
    let long = length-joined_slots pool.slots (besides_of c.self.inside.asides)
    c.self.invariant.beside in
    let free = ap length (free_kept pool c.reserve.new.self c.reserve.ensures.kept) in
    let room = c.in_ok-reserve.ensures.room in
    let more = c.in_ok-reserve-2.ensures.room in
    rw (← c.self.view_is, long) (omega arith)

pub returns-clause-at_most : goal.returns-clause-at_most
returns-clause-at_most g c =
    let long = length-joined_slots c.self.inside.pool.slots (besides_of c.self.inside.asides)
    c.self.invariant.beside in
    let beside = c.self.invariant.beside in
    let more = c.reserve.ensures.at_most in
    let also = c.reserve-2.ensures.at_most in
    rw (← c.self.view_is, long) (omega arith)

pub returns-clause-succeeds : goal.returns-clause-succeeds
returns-clause-succeeds g c =
    let beside = c.self.invariant.beside in
    let long = length-joined_slots c.self.inside.pool.slots (besides_of c.self.inside.asides)
    c.self.invariant.beside in
    rw (← c.self.view_is, long) (λ enough.
    let same = (c.reserve.ensures.succeeds (omega arith)).1 in
    let had = (c.reserve-2.ensures.had_room (omega arith)).1 in
    (refl, λ i. joined (same i) (c.reserve-2.ensures.items i) (had i)))
