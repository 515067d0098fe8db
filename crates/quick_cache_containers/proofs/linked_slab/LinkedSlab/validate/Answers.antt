use Rattle.std.proofs.Common.{vec_len, vec_capacity, arith}
use Rattle.quick_cache_containers.proofs.PartedRings.{IsParted-nodes}
use Rattle.quick_cache_containers.specs.Nodes.{item_of}
use Rattle.quick_cache_containers.proofs.linked_slab.LinkedSlab.validate.Goals as goal

pub returns : goal.returns
returns g c =
    let nodes = c.self.inside.nodes in
    rw (← c.self.view_is) (IsParted-nodes item_of nodes.items c.self.inside.next_free.value
    (vec_capacity nodes) (vec_len nodes) (omega arith) c.self.invariant)
