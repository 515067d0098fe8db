use Rattle.quick_cache_store.specs.Asides.{besides_of, room_of}
use Rattle.quick_cache_store.proofs.slots.JoinedLemmas.{occupied-apart}
use Rattle.quick_cache_store.proofs.slots.JoinedEdits.{IsParted-joined, item_at-read, removed-joined, beside-removed}
use Rattle.quick_cache_store.proofs.slots.slots.Slots.remove.Goals as goal

pub remove-stored-requires : goal.remove-stored-requires
remove-stored-requires g c =
    let asides = c.self.inside.asides in
    occupied-apart c.self.inside.pool (besides_of asides)
    (room_of asides) c.args.token.value c.self.invariant.beside
    (rw (← c.self.view_is) at c.requires)

pub returns-clause-item : goal.returns-clause-item
returns-clause-item g c =
    let asides = c.self.inside.asides in
    rw (← c.self.view_is, c.unstore.ensures) (item_at-read c.self.inside.pool (besides_of asides)
    (room_of asides) c.args.token.value c.place.result
    c.remove-stored.result c.get.result c.self.invariant.beside c.remove-stored.ensures.item
    c.place.ensures
    c.get.ensures)

pub returns-clause-removed : goal.returns-clause-removed
returns-clause-removed g c =
    let asides = c.self.inside.asides in
    rw (← c.self.view_is) (removed-joined c.self.inside.pool c.remove-stored.new.self
    (besides_of asides)
    (room_of asides) c.args.token.value
    c.remove-stored.ensures.removed)

pub returns-clause-parted : goal.returns-clause-parted
returns-clause-parted g c =
    let asides = c.self.inside.asides in
    IsParted-joined c.remove-stored.new.self (besides_of asides)
    (room_of asides)
    (beside-removed c.self.inside.pool c.remove-stored.new.self (besides_of asides)
    c.args.token.value
    c.remove-stored.ensures.removed c.self.invariant.beside) c.remove-stored.ensures.parted
