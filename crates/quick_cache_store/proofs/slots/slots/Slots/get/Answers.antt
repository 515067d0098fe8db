use Rattle.quick_cache_store.specs.Asides.{besides_of, room_of}
use Rattle.quick_cache_store.proofs.slots.JoinedEdits.{vacant-joined, item_at-read}
use Rattle.quick_cache_store.proofs.slots.slots.Slots.get.Goals as goal

pub returns-in_err-entry-clause-absent : goal.returns-in_err-entry-clause-absent
returns-in_err-entry-clause-absent g c =
    let asides = c.self.inside.asides in
    rw (c.from_residual.ensures, ← c.self.view_is) (vacant-joined c.self.inside.pool
    (besides_of asides)
    (room_of asides) c.args.token.value c.self.invariant.beside
    c.in_err-entry.ensures.absent)

pub returns-clause-item : goal.returns-clause-item
returns-clause-item g c =
    let asides = c.self.inside.asides in
    rw (← c.self.view_is) (item_at-read c.self.inside.pool (besides_of asides)
    (room_of asides) c.args.token.value c.place.result _ _
    c.self.invariant.beside c.in_ok-entry.ensures.item c.place.ensures (rw c.lists.ensures at
    c.at.ensures))
