use Rattle.std.proofs.Common.{arith}
use Rattle.quick_cache_store.proofs.slots.BesideLemmas.{length-besides}
use Rattle.quick_cache_store.proofs.slots.asides.Asides.reserve.Goals as goal

pub returns-clause-at_most : goal.returns-clause-at_most
returns-clause-at_most g c =
    let a = c.args.self.now in
    let long = length-besides a.asides.items a.marks.items c.requires in
    let first = c.make_room.ensures in
    let second = c.make_room-2.ensures in
    let one = first.at_most in
    let two = second.at_most in
    let same = first.len in
    let same' = second.len in
    omega (arith, long, one, two, same, same', c.requires)
