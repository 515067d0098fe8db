use Rattle.quick_cache_store.proofs.slots.BesideLemmas.{besides-push}
use Rattle.quick_cache_store.proofs.slots.asides.Asides.push_reserved.Goals as goal

pub returns-clause-items : goal.returns-clause-items
returns-clause-items g c =
    let a = c.args.self.now in
    rw (c.push_reserved.ensures.items, c.push_reserved-2.ensures.items)
    (besides-push a.asides.items a.marks.items c.args.beside.aside c.args.beside.mark
    c.requires.in_step)
