use Rattle.std.specs.Int.NonZero.{non_zero_u32_get as number}
use Rattle.quick_cache_store.specs.Queues.{tokens_from}
use Rattle.quick_cache_store.proofs.lists.WalkLemmas.{occupied-on_walk}
use Rattle.quick_cache_store.proofs.lists.walk.WalkIterator.next.Goals as goal

pub slot-requires : goal.slot-requires
slot-requires g c =
    let i = c.self.inside in
    occupied-on_walk i.slots.now (tokens_from i.queue.now i.passed) (number c.in_ok-token.token)
    (tokens_from i.queue.now c.in_ok-token.behind) c.in_ok-token.ensures i.left c.self.invariant
