use Rattle.std.proofs.Common.{◌≡◌, ◌++◌, take, drop}
use Rattle.std.specs.VecDeque.{deque_capacity}
use Rattle.quick_cache_store.proofs.queue.token_queue.TokenQueue.turn_places.Given as goal

-- the places up to here were turned
abbrev pub invariant-loop : goal.invariant-loop
invariant-loop g l =
    (l.self.places.items ≡ drop l.counter l.fn.self.places.items
    ++ take l.counter l.fn.self.places.items)
    × (l.self.empty ≡ l.fn.self.empty)
    × (deque_capacity l.self.places ≡ deque_capacity l.fn.self.places)
