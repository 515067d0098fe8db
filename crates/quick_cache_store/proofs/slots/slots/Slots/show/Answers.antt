use Rattle.std.specs.Int.NonZero.{non_zero_u32_get as number}
use Rattle.quick_cache_store.specs.Asides.{besides_of}
use Rattle.quick_cache_store.proofs.slots.WrittenLemmas.{item-occupied, item-stored, shown-joined, shown-stored}
use Rattle.quick_cache_store.proofs.slots.slots.Slots.show.Goals as goal

pub item_mut-entry-requires : goal.item_mut-entry-requires
item_mut-entry-requires g c =
    let i = c.self.inside in
    item-occupied i.pool (besides_of i.asides) _ _ _ c.self.invariant.beside c.self.view_is
    c.requires.item

pub show-requires-clause-item : goal.show-requires-clause-item
show-requires-clause-item g c =
    let i = c.self.inside in
    item-stored i.pool (besides_of i.asides) _ _ _ c.self.invariant.beside c.self.view_is _
    c.requires.item
    c.item_mut-entry.ensures.item

pub show-requires-clause-callable : goal.show-requires-clause-callable
show-requires-clause-callable g c =
    let i = c.self.inside in
    shown-stored i.pool (besides_of i.asides) _ _ _ c.self.invariant.beside c.self.view_is
    g.F.FnMut c.args.callback.now c.requires.callable _ c.requires.item c.item_mut-entry.ensures.item

pub returns : goal.returns
returns g c =
    let i = c.self.inside in
    rw (← c.self.view_is) (shown-joined i.pool (besides_of i.asides) _ (number c.args.token) _
    c.self.invariant.beside c.item_mut-entry.ensures.item g.F.FnMut c.args.callback.now
    c.show.result
    c.show.new.callback c.show.new.self c.show.ensures)
