use Rattle.quick_cache_store.specs.Asides.{besides_of, room_of}
use Rattle.quick_cache_store.proofs.slots.JoinedWalks.{entries_from-joined, entries_from-covered}
use Rattle.quick_cache_store.proofs.slots.slots.Slots.iter_from.Goals as goal

pub invariant_of-result : goal.invariant_of-result
invariant_of-result g c =
    rw c.lists.ensures (entries_from-covered c.self.inside.pool
    (besides_of c.self.inside.asides) c.args.token c.iter_from.result c.self.invariant.beside
    c.iter_from.ensures)

pub returns : goal.returns
returns g c =
    let asides = c.self.inside.asides in
    rw (← c.self.view_is, c.lists.ensures) (entries_from-joined c.self.inside.pool
    (besides_of asides) (room_of asides) c.args.token
    c.iter_from.result c.self.invariant.beside c.iter_from.ensures)
