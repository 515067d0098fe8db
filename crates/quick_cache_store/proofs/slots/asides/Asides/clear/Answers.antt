use Rattle.std.proofs.Common.{arith}
use Rattle.quick_cache_store.proofs.slots.BesideLemmas.{length-besides}
use Rattle.quick_cache_store.proofs.slots.asides.Asides.clear.Goals as goal

pub returns-clause-room : goal.returns-clause-room
returns-clause-room g c =
    let a = c.args.self.now in
    omega (arith, length-besides a.asides.items a.marks.items c.requires, c.requires)
