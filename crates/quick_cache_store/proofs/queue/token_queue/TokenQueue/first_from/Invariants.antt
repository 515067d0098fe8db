use Rattle.std.proofs.Common.{◌≡◌, ◌-◌, length}
use Rattle.quick_cache_store.specs.Queues.{tokens_from}
use Rattle.quick_cache_store.proofs.queue.token_queue.TokenQueue.first_from.Given as goal

-- all places up to here are empty
abbrev pub invariant-loop-place : goal.invariant-loop-place
invariant-loop-place g l = tokens_from l.self l.from ≡ tokens_from l.self l.place

abbrev pub decreases-loop-place : goal.decreases-loop-place
decreases-loop-place g l = length l.self.places.items - l.place
