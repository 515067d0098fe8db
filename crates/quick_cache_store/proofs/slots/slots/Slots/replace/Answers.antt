use Rattle.std.proofs.Common.{sym}
use Rattle.std.specs.Int.NonZero.{non_zero_u32_get as number}
use Rattle.quick_cache_store.specs.Asides.{besides_of, room_of}
use Rattle.quick_cache_store.proofs.slots.WrittenLemmas.{occupied-stored, aside-read, entry-joined, Writes-both}
use Rattle.quick_cache_store.proofs.slots.slots.Slots.replace.Goals as goal

pub item_mut-stored-requires : goal.item_mut-stored-requires
item_mut-stored-requires g c =
    let i = c.self.inside in
    occupied-stored i.pool (besides_of i.asides) _ _ _ c.self.invariant.beside c.self.view_is
    c.requires

pub returns-clause-writes : goal.returns-clause-writes
returns-clause-writes g c =
    let i = c.self.inside in
    rw (← c.self.view_is, c.put.ensures.items, c.put.ensures.room) (Writes-both i.pool
    (besides_of i.asides) _ (number c.args.token) _
    c.self.invariant.beside c.item_mut-stored.ensures.item _ c.place-place.result
    c.place-place.ensures
    c.get-beside.result c.get-beside.ensures c.replace-old.new.self c.replace-old.new.beside
    c.replace-old.ensures.new)

pub returns-clause-old : goal.returns-clause-old
returns-clause-old g c =
    let i = c.self.inside in
    let t = number c.args.token in
    let stored = c.item_mut-stored.result.now in
    let item = c.item_mut-stored.ensures.item in
    rw (← c.self.view_is) (entry-joined i.pool (besides_of i.asides)
    (room_of i.asides) t stored c.get-beside.result _
    c.self.invariant.beside item (aside-read i.pool (besides_of i.asides) t c.place-place.result
    stored
    c.get-beside.result c.self.invariant.beside item c.place-place.ensures c.get-beside.ensures)
    (sym c.replace-old.ensures.old))
