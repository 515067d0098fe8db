use Rattle.std.proofs.Common.{arith}
use Rattle.std.proofs.lemmas.List.{length-reverse}
use Rattle.quick_cache_store.proofs.pool.StackLemmas.{length-slots_past, slots-counted, free_few}
use Rattle.quick_cache_store.proofs.pool.Pool.len.Goals as goal

pub overflow_sub-result : goal.overflow_sub-result
overflow_sub-result g c =
    let i = c.self.inside in
    let few = free_few g.T.Blank.is_blank g.T.Blank.note_of i.items.items i.free.items _
    c.self.invariant in
    omega arith

pub returns-clause-items : goal.returns-clause-items
returns-clause-items g c =
    let i = c.self.inside in
    let counted = slots-counted i.free.items i.items.items c.self.invariant.once
    c.self.invariant.within in
    rw (← c.self.view_is) (omega arith)

pub returns-clause-free : goal.returns-clause-free
returns-clause-free g c =
    let i = c.self.inside in
    let few = free_few g.T.Blank.is_blank g.T.Blank.note_of i.items.items i.free.items _
    c.self.invariant in
    rw (← c.self.view_is)
    (omega (arith, length-reverse i.free.items, length-slots_past i.free.items 0 i.items.items))
