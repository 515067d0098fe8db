use Rattle.std.proofs.Common.{◌<◌, ◌∙◌, length, get_or, sym, arith}
use Rattle.std.proofs.lemmas.List.{get_or_default}
use Rattle.quick_cache_store.specs.declared.slots.aside.Aside.{Aside}
use Rattle.quick_cache_store.specs.declared.slots.beside.Beside.{Beside}
use Rattle.quick_cache_store.specs.Asides.{besides}
use Rattle.quick_cache_store.proofs.slots.BesideLemmas.{within-besides, get_or-besides}
use Rattle.quick_cache_store.proofs.slots.asides.AsideLists.at.Goals as goal

pub bounds-asides-place : goal.bounds-asides-place
bounds-asides-place g =
    let i = g.self.inside in
    let below : g.args.place < length (besides i.asides.now i.marks.now) =
    rw (← g.self.view_is) at g.requires in
    (within-besides i.asides.now i.marks.now g.args.place below).0

pub offset_bounds-asides-place : goal.offset_bounds-asides-place
offset_bounds-asides-place g =
    let i = g.self.inside in
    let below : g.args.place < length (besides i.asides.now i.marks.now) =
    rw (← g.self.view_is) at g.requires in
    let within = (within-besides i.asides.now i.marks.now g.args.place below).0 in
    let fits = g.self.told.0 in
    omega (arith, within, fits)

pub bounds-marks-place : goal.bounds-marks-place
bounds-marks-place g =
    let i = g.self.inside in
    let below : g.args.place < length (besides i.asides.now i.marks.now) =
    rw (← g.self.view_is) at g.requires in
    (within-besides i.asides.now i.marks.now g.args.place below).1

pub returns : goal.returns
returns g =
    let i = g.self.inside in
    let below : g.args.place < length (besides i.asides.now i.marks.now) =
    rw (← g.self.view_is) at g.requires in
    let within = within-besides i.asides.now i.marks.now g.args.place below in
    let no : Aside = record { hash = 0; weight = 0; reads = 0 } in
    let b : Beside = record {
      aside = get_or i.asides.now g.args.place no;
      mark = get_or i.marks.now g.args.place 0;
    } in
    rw (← g.self.view_is) (sym (get_or-besides i.asides.now i.marks.now g.args.place b below
    ∙ (λ j. record {
      aside = sym (get_or_default i.asides.now g.args.place no b.aside within.0) j;
      mark = sym (get_or_default i.marks.now g.args.place 0 b.mark within.1) j;
    })))
