use Rattle.std.proofs.Common.{map, ◌≡◌, ◌+◌, ◌<◌, length}
use Rattle.quick_cache_containers.specs.LinkedSlab.{entries_past}
use Rattle.quick_cache_containers.specs.Nodes.{item_of}
use Rattle.quick_cache_containers.proofs.linked_slab.iter.IterFromIterator.next.Given as goal

-- only free slots were passed over
abbrev pub invariant-loop-node : goal.invariant-loop-node
invariant-loop-node g l =
    (l.self-inside.passed + length l.self-inside.nodes.now < 4294967295)
    × (entries_past l.self-inside.passed (map item_of l.self-inside.nodes.now) ≡ l.fn.self)

abbrev pub decreases-loop-node : goal.decreases-loop-node
decreases-loop-node g l = length l.self-inside.nodes.now
