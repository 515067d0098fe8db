use Rattle.std.proofs.Common.{map, ◌≡◌, ◌≤◌, take, is_some, count_by}
use Rattle.quick_cache_containers.specs.Nodes.{item_of}
use Rattle.quick_cache_containers.proofs.linked_slab.links.occupied_count.Given as goal

-- the slots up to here are counted
abbrev pub invariant-loop-node : goal.invariant-loop-node
invariant-loop-node g l =
    (l.count ≡ count_by is_some (take l.node-index (map item_of l.nodes))) × (l.count ≤ l.node-index)
