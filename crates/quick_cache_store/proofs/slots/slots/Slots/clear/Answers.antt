use Rattle.std.proofs.Common.{◌+◌, length, ◌∙◌, ap, arith}
use Rattle.quick_cache_store.specs.Pool.{emptied}
use Rattle.quick_cache_store.specs.Asides.{besides_of, room_of}
use Rattle.quick_cache_store.proofs.slots.JoinedEdits.{emptied-joined, length-joined_slots}
use Rattle.quick_cache_store.proofs.slots.slots.Slots.clear.Goals as goal

pub returns : goal.returns
returns g c =
    let pool = c.self.inside.pool in
    let asides = c.self.inside.asides in
    let cleared = c.clear-2.new.self in
    let long = length-joined_slots pool.slots (besides_of asides) c.self.invariant.beside in
    let beside = c.self.invariant.beside in
    rw (← c.self.view_is, long) (emptied-joined c.clear.new.self (besides_of cleared)
    (pool.room + length pool.slots) (room_of cleared)
    c.clear.ensures ∙ ap emptied (omega arith))
