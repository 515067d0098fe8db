use Rattle.std.proofs.Common.{map, ◌≡◌, filter_map, length}
use Rattle.quick_cache_containers.specs.Nodes.{item_of}
use Rattle.quick_cache_containers.proofs.linked_slab.iter.IterIterator.next.Given as goal

-- only free slots were passed over
abbrev pub invariant-loop-node : goal.invariant-loop-node
invariant-loop-node g l = filter_map (λ slot. slot) (map item_of l.self-inside.nodes.now) ≡ l.fn.self

abbrev pub decreases-loop-node : goal.decreases-loop-node
decreases-loop-node g l = length l.self-inside.nodes.now
