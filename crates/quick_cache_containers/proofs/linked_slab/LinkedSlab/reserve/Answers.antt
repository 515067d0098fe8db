use Rattle.std.proofs.Common.{length, ap, arith}
use Rattle.quick_cache_containers.proofs.PartedRings.{IsParted-nodes}
use Rattle.quick_cache_containers.specs.Nodes.{item_of}
use Rattle.quick_cache_containers.proofs.linked_slab.LinkedSlab.reserve.Goals as goal

pub invariant_of-self : goal.invariant_of-self
invariant_of-self g c = rw c.make_room.ensures.items c.self.invariant

pub returns-clause-parted : goal.returns-clause-parted
returns-clause-parted g c =
    let items = ap length c.make_room.ensures.items in
    IsParted-nodes item_of _ _ _ _ (omega arith) (invariant_of-self g c)
