use Rattle.std.proofs.Common.{ap, arith}
use Rattle.quick_cache_store.specs.Pool.{emptied}
use Rattle.quick_cache_store.proofs.pool.StackLemmas.{length-slots_past}
use Rattle.quick_cache_store.proofs.pool.Pool.clear.Goals as goal

pub returns : goal.returns
returns g c =
    let i = c.self.inside in
    let long = length-slots_past i.free.items 0 i.items.items in
    let s = c.self.invariant in
    rw (← c.self.view_is, c.clear.ensures.items, c.clear-2.ensures.items)
    (ap emptied (omega (
      arith,
      s.few,
      s.room,
      c.clear.ensures.len,
      c.clear.ensures.capacity,
      c.clear-2.ensures.capacity,
    )))
