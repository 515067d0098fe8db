use Rattle.std.proofs.Common.{◌-◌, ◌<◌, length}
use Rattle.std.specs.Int.NonZero.{non_zero_u32_get as number}
use Rattle.quick_cache_store.specs.Queues.{times, tokens_from}
use Rattle.quick_cache_store.proofs.queue.token_queue.TokenQueue.seek.Given as goal

-- the token stands here or farther behind
abbrev pub invariant-loop-place : goal.invariant-loop-place
invariant-loop-place g l = 0 < times (number l.token) (tokens_from l.self l.place)

abbrev pub decreases-loop-place : goal.decreases-loop-place
decreases-loop-place g l = length l.self.places.items - l.place
