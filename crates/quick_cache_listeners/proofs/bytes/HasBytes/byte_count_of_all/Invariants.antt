use Rattle.std.specs.Prelude.{◌≡◌, ◌+◌, ◌-◌, ◌^◌, ◌≤◌, sum_by, length}
use Rattle.quick_cache_listeners.specs.Bytes.{capped, bytes_in}
use Rattle.quick_cache_listeners.proofs.bytes.HasBytes.byte_count_of_all.Given as goal

-- What was added so far, with what is left, comes to the bytes of all.
abbrev pub invariant-loop-item : goal.invariant-loop-item
invariant-loop-item g l =
    (bytes_in g.Self.HasBytes.byte_count l.fn.items
    ≡ capped (l.total + sum_by g.Self.HasBytes.byte_count l.rest))
    × (l.total ≤ 2 ^ 64 - 1)

abbrev pub decreases-loop-item : goal.decreases-loop-item
decreases-loop-item g l = length l.rest
