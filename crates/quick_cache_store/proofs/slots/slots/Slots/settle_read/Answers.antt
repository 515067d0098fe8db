use Rattle.std.specs.Int.NonZero.{non_zero_u32_get as number}
use Rattle.quick_cache_store.specs.Asides.{besides_of}
use Rattle.quick_cache_store.proofs.slots.WrittenLemmas.{item-occupied, item-stored, Writes-both}
use Rattle.quick_cache_store.proofs.slots.slots.Slots.settle_read.Goals as goal

pub item_mut-entry-requires : goal.item_mut-entry-requires
item_mut-entry-requires g c =
    let i = c.self.inside in
    item-occupied i.pool (besides_of i.asides) _ _ _ c.self.invariant.beside c.self.view_is
    c.requires

pub settle_read-requires : goal.settle_read-requires
settle_read-requires g c =
    let i = c.self.inside in
    item-stored i.pool (besides_of i.asides) _ _ _ c.self.invariant.beside c.self.view_is _
    c.requires
    c.item_mut-entry.ensures.item

pub returns : goal.returns
returns g c =
    let i = c.self.inside in
    rw (← c.self.view_is, c.put.ensures.items, c.put.ensures.room) (Writes-both i.pool
    (besides_of i.asides) _
    (number c.args.token) _ c.self.invariant.beside c.item_mut-entry.ensures.item _
    c.place-place.result c.place-place.ensures c.get-beside.result c.get-beside.ensures
    c.settle_read.new.self c.settle_read.new.beside c.settle_read.ensures)
