use Rattle.std.proofs.Common.{◌≡◌, length}
use Rattle.std.specs.List.{filter}
use Rattle.quick_cache_shard.specs.Saved.{is_weightless}
use Rattle.quick_cache_shard.proofs.walking.saved.Weightless.next.Given as goal

-- no item that weighs nothing was passed over
abbrev pub invariant-loop-item : goal.invariant-loop-item
invariant-loop-item g l = filter is_weightless l.self-inside.items ≡ l.fn.self

abbrev pub decreases-loop-item : goal.decreases-loop-item
decreases-loop-item g l = length l.self-inside.items
