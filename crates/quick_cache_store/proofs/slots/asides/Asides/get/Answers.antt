use Rattle.std.proofs.Common.{◌∙◌, sym, arith}
use Rattle.quick_cache_store.specs.declared.slots.beside.Beside.{Beside}
use Rattle.quick_cache_store.proofs.slots.BesideLemmas.{within-besides, get_or-besides}
use Rattle.quick_cache_store.proofs.slots.asides.Asides.get.Goals as goal

pub index-requires : goal.index-requires
index-requires g c =
    let a = c.args.self.now in
    let within = (within-besides a.asides.items a.marks.items c.args.place c.requires).0 in
    omega (arith, within)

pub index-requires-2 : goal.index-requires-2
index-requires-2 g c =
    let a = c.args.self.now in
    let within = (within-besides a.asides.items a.marks.items c.args.place c.requires).1 in
    omega (arith, within)

pub returns : goal.returns
returns g c =
    let a = c.args.self.now in
    let b : Beside = record { aside = c.index.result.now; mark = c.index-2.result.now } in
    sym (get_or-besides a.asides.items a.marks.items c.args.place b c.requires
    ∙ (λ j. record { aside = sym c.index.ensures j; mark = sym c.index-2.ensures j }))
