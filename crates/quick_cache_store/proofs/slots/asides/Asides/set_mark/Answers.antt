use Rattle.std.proofs.Common.{arith}
use Rattle.quick_cache_store.proofs.slots.BesideLemmas.{within-besides, besides-mark}
use Rattle.quick_cache_store.proofs.slots.asides.Asides.set_mark.Goals as goal

pub index_mut-requires : goal.index_mut-requires
index_mut-requires g c =
    let a = c.args.self.now in
    let within = (within-besides a.asides.items a.marks.items c.args.place c.requires.within).1 in
    omega (arith, within)

pub returns-clause-items : goal.returns-clause-items
returns-clause-items g c =
    let a = c.args.self.now in
    λ was is. besides-mark a.asides.items a.marks.items c.args.place c.args.mark was
    c.requires.in_step is
