use Rattle.std.proofs.Common.{◌≡◌, ◌≤◌, take, drop}
use Rattle.quick_cache_store.specs.Queues.{tokens_at}
use Rattle.quick_cache_store.proofs.queue.token_queue.gather.Given as goal

-- the tokens of the places up to here stand at the front, and the places from here on are as they
-- were
abbrev pub invariant-loop-place : goal.invariant-loop-place
invariant-loop-place g l =
    (take l.count l.places ≡ tokens_at (take l.place l.fn.places))
    × (drop l.place l.places ≡ drop l.place l.fn.places)
    × (l.count ≤ l.place)
