use Rattle.std.proofs.Common.{arith}
use Rattle.quick_cache_store.proofs.slots.BesideLemmas.{within-besides, besides-set}
use Rattle.quick_cache_store.proofs.slots.asides.Asides.put.Goals as goal

pub index_mut-requires : goal.index_mut-requires
index_mut-requires g c =
    let a = c.args.self.now in
    let within = (within-besides a.asides.items a.marks.items c.args.place c.requires.within).0 in
    omega (arith, within)

pub index_mut-requires-2 : goal.index_mut-requires-2
index_mut-requires-2 g c =
    let a = c.args.self.now in
    let within = (within-besides a.asides.items a.marks.items c.args.place c.requires.within).1 in
    omega (arith, within)

pub returns-clause-items : goal.returns-clause-items
returns-clause-items g c =
    let a = c.args.self.now in
    besides-set a.asides.items a.marks.items c.args.place c.args.beside.aside c.args.beside.mark
