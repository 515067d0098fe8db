use Rattle.std.proofs.Common.{◌≡◌, length}
use Rattle.std.specs.VecDeque.{deque_capacity}
use Rattle.quick_cache_store.specs.Queues.{IsCounted, tokens_of}
use Rattle.quick_cache_store.proofs.queue.token_queue.TokenQueue.drop_empty.Given as goal

-- no token went
abbrev pub invariant-loop-self : goal.invariant-loop-self
invariant-loop-self g l = (tokens_of l.self ≡ tokens_of l.fn.self)
    × IsCounted l.self
    × (deque_capacity l.self.places ≡ deque_capacity l.fn.self.places)

abbrev pub decreases-loop-self : goal.decreases-loop-self
decreases-loop-self g l = length l.self.places.items
