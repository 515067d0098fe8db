use Rattle.std.proofs.Common.{arith}
use Rattle.quick_cache_store.proofs.slots.slots.Slots.spare.Goals as goal

-- each slot has an entry or is free
pub returns : goal.returns
returns g c =
    let beside = c.self.invariant.beside in
    let free = c.len-2.ensures.free in
    rw (← c.self.view_is) (omega arith)
