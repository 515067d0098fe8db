use Rattle.quick_cache_store.specs.Asides.{besides_of, room_of}
use Rattle.quick_cache_store.proofs.slots.JoinedLemmas.{occupied-apart}
use Rattle.quick_cache_store.proofs.slots.JoinedEdits.{item_at-read}
use Rattle.quick_cache_store.proofs.slots.slots.Slots.slot.Goals as goal

pub item-entry-requires : goal.item-entry-requires
item-entry-requires g c =
    let asides = c.self.inside.asides in
    occupied-apart c.self.inside.pool (besides_of asides)
    (room_of asides) c.args.token.value c.self.invariant.beside
    (rw (← c.self.view_is) at c.requires)

pub returns : goal.returns
returns g c =
    let asides = c.self.inside.asides in
    rw (← c.self.view_is) (item_at-read c.self.inside.pool (besides_of asides)
    (room_of asides) c.args.token.value c.place.result _ _
    c.self.invariant.beside c.item-entry.ensures.item c.place.ensures (rw c.lists.ensures at
    c.at.ensures))
