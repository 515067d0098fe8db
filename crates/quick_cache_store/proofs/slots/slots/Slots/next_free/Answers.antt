use Rattle.std.proofs.Common.{◌∙◌, sym, ap, ℕ, ◌+◌}
use Rattle.quick_cache_store.specs.Pool.{first_or}
use Rattle.quick_cache_store.specs.Asides.{besides_of}
use Rattle.quick_cache_store.proofs.slots.JoinedEdits.{length-joined_slots}
use Rattle.quick_cache_store.proofs.slots.slots.Slots.next_free.Goals as goal

pub returns-clause-token : goal.returns-clause-token
returns-clause-token g c =
    let pool = c.self.inside.pool in
    let long = length-joined_slots pool.slots (besides_of c.self.inside.asides)
    c.self.invariant.beside in
    rw (← c.self.view_is)
    (c.next_free.ensures.token ∙ ap (λ (n : ℕ). first_or (n + 1) pool.free) (sym long))

pub returns-clause-full : goal.returns-clause-full
returns-clause-full g c =
    let pool = c.self.inside.pool in
    let long = length-joined_slots pool.slots (besides_of c.self.inside.asides)
    c.self.invariant.beside in
    let full = c.next_free.ensures.full in
    rw (← c.self.view_is, long) full
