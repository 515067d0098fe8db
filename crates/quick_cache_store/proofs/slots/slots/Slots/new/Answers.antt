use Rattle.std.proofs.Common.{◌∙◌, ap, arith}
use Rattle.quick_cache_store.specs.Pool.{emptied}
use Rattle.quick_cache_store.specs.Asides.{besides_of, room_of}
use Rattle.quick_cache_store.proofs.slots.JoinedEdits.{emptied-joined}
use Rattle.quick_cache_store.proofs.slots.slots.Slots.new.Goals as goal

pub returns : goal.returns
returns g c =
    let pool = c.new.result in
    let none = c.new-2.ensures.room in
    emptied-joined pool (besides_of c.new-2.result) pool.room (room_of c.new-2.result)
    c.new.ensures ∙ ap emptied (omega (arith, none))
