use Rattle.std.specs.Int.NonZero.{non_zero_u32_get as number}
use Rattle.quick_cache_store.specs.Asides.{besides_of, room_of}
use Rattle.quick_cache_store.proofs.slots.WrittenLemmas.{item-occupied, item-stored, aside-read, entry-joined, Writes-both}
use Rattle.quick_cache_store.proofs.slots.slots.Slots.rewrite.Goals as goal

pub item_mut-entry-requires : goal.item_mut-entry-requires
item_mut-entry-requires g c =
    let i = c.self.inside in
    item-occupied i.pool (besides_of i.asides) _ _ _ c.self.invariant.beside c.self.view_is
    c.requires

pub rewrite-old-requires : goal.rewrite-old-requires
rewrite-old-requires g c =
    let i = c.self.inside in
    item-stored i.pool (besides_of i.asides) _ _ _ c.self.invariant.beside c.self.view_is _
    c.requires
    c.item_mut-entry.ensures.item

pub returns-clause-writes : goal.returns-clause-writes
returns-clause-writes g c =
    let i = c.self.inside in
    rw (← c.self.view_is, c.put.ensures.items, c.put.ensures.room) (Writes-both i.pool
    (besides_of i.asides) _ (number c.args.token) _
    c.self.invariant.beside c.item_mut-entry.ensures.item _ c.place-place.result
    c.place-place.ensures
    c.get-beside.result c.get-beside.ensures c.rewrite-old.new.self c.rewrite-old.new.beside
    c.rewrite-old.ensures.new)

pub returns-clause-old : goal.returns-clause-old
returns-clause-old g c =
    let i = c.self.inside in
    let t = number c.args.token in
    let stored = c.item_mut-entry.result.now in
    let item = c.item_mut-entry.ensures.item in
    rw (← c.self.view_is) (entry-joined i.pool (besides_of i.asides)
    (room_of i.asides) t stored c.get-beside.result _
    c.self.invariant.beside item (aside-read i.pool (besides_of i.asides) t c.place-place.result
    stored
    c.get-beside.result c.self.invariant.beside item c.place-place.ensures c.get-beside.ensures)
    c.rewrite-old.ensures.old)
