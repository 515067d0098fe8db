use Rattle.quick_cache_store.specs.Asides.{besides_of, room_of}
use Rattle.quick_cache_store.proofs.slots.JoinedEdits.{IsParted-joined}
use Rattle.quick_cache_store.proofs.slots.slots.Slots.facts.Goals as goal

pub returns : goal.returns
returns g c =
    let asides = c.self.inside.asides in
    rw (← c.self.view_is) (IsParted-joined c.self.inside.pool (besides_of asides)
    (room_of asides) c.self.invariant.beside
    c.facts.ensures)
