use Rattle.std.proofs.Common.{vec_len, vec_capacity, arith}
use Rattle.quick_cache_store.proofs.pool.StackLemmas.{IsParted-stack}
use Rattle.quick_cache_store.proofs.pool.Pool.facts.Goals as goal

pub returns : goal.returns
returns g c =
    let i = c.self.inside in
    rw (← c.self.view_is) (IsParted-stack g.T.Blank.is_blank g.T.Blank.note_of i.items.items
    i.free.items (vec_capacity i.items) (vec_capacity i.free) (vec_len i.items) (omega arith)
    c.self.invariant)
