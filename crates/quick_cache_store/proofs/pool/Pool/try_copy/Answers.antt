use Rattle.std.proofs.Common.{length, ap, ◌∙◌, vec_len, vec_capacity, arith}
use Rattle.quick_cache_store.proofs.pool.StackLemmas.{IsSound-copied, IsParted-stack}
use Rattle.quick_cache_store.proofs.pool.Pool.try_copy.Goals as goal

pub returns-clause-parted : goal.returns-clause-parted
returns-clause-parted g c =
    let i = c.self.inside in
    let items = c.in_ok-items.items in
    let free = c.in_ok-free.free in
    IsParted-stack g.T.Blank.is_blank g.T.Blank.note_of items.items free.items
    (vec_capacity items) (vec_capacity free) (vec_len items) (omega arith)
    (IsSound-copied g.T.Blank.is_blank g.T.Blank.note_of i.items.items items.items i.free.items
    free.items (vec_capacity i.free) (vec_capacity free)
    (c.in_ok-free.ensures.items ∙ c.as_slice.ensures.value)
    (c.in_ok-items.ensures.len ∙ ap length c.as_slice-2.ensures.value)
    (omega (arith, c.in_ok-free.ensures.room))
    (rw (← c.as_slice-3.ensures.value) c.in_ok-items.ensures.noted) c.self.invariant)
