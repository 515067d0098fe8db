use Rattle.std.proofs.Common.{arith}
use Rattle.quick_cache_store.proofs.slots.BesideLemmas.{length-besides}
use Rattle.quick_cache_store.proofs.slots.asides.Asides.len.Goals as goal

pub returns : goal.returns
returns g c =
    let a = c.args.self.now in
    omega (arith, length-besides a.asides.items a.marks.items c.requires)
