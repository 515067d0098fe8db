use Rattle.std.proofs.Common.{◌∙◌, sym}
use Rattle.quick_cache_store.specs.Asides.{besides_of}
use Rattle.quick_cache_store.proofs.slots.JoinedEdits.{length-joined_slots, count-joined_slots}
use Rattle.quick_cache_store.proofs.slots.slots.Slots.len.Goals as goal

pub returns-clause-items : goal.returns-clause-items
returns-clause-items g c =
    let same = count-joined_slots c.self.inside.pool.slots (besides_of c.self.inside.asides)
    c.self.invariant.beside in
    rw (← c.self.view_is) (c.len.ensures.items ∙ sym same)

pub returns-clause-free : goal.returns-clause-free
returns-clause-free g c =
    let long = length-joined_slots c.self.inside.pool.slots (besides_of c.self.inside.asides)
    c.self.invariant.beside in
    rw (← c.self.view_is) (c.len.ensures.free ∙ sym long)
