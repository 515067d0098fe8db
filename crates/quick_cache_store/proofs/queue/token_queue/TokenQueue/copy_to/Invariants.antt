use Rattle.std.proofs.Common.{◌≡◌, ◌++◌, length}
use Rattle.quick_cache_store.specs.Queues.{IsQueue, tokens_of, tokens_from, capacity_of}
use Rattle.quick_cache_store.proofs.queue.token_queue.TokenQueue.copy_to.Given as goal

-- the tokens of the copy and those that are left are all
abbrev pub invariant-loop-token : goal.invariant-loop-token
invariant-loop-token g l = IsQueue l.copy
    × (tokens_of l.copy ++ tokens_from l.self l.place ≡ tokens_of l.self)
    × (capacity_of l.copy ≡ capacity_of l.fn.copy)

abbrev pub decreases-loop-token : goal.decreases-loop-token
decreases-loop-token g l = length (tokens_from l.self l.place)
