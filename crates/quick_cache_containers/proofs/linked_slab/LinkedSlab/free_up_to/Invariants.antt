use Rattle.std.proofs.Common.{map, ◌-◌, ◌≤◌}
use Rattle.quick_cache_containers.specs.Links.{IsFreeRest}
use Rattle.quick_cache_containers.specs.Nodes.{item_of, next_link}
use Rattle.quick_cache_containers.proofs.linked_slab.LinkedSlab.free_up_to.Given as goal

-- the free slots up to here are counted
abbrev pub invariant-loop-found : goal.invariant-loop-found
invariant-loop-found g l =
    IsFreeRest (map item_of l.nodes) (map next_link l.nodes) l.fn.self.free l.token.value l.found
    × (l.found ≤ l.most)

abbrev pub decreases-loop-found : goal.decreases-loop-found
decreases-loop-found g l = l.most - l.found
