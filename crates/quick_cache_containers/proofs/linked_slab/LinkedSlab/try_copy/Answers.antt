use Rattle.std.proofs.Common.{vec_len, vec_capacity, arith}
use Rattle.quick_cache_containers.specs.Links.{room_of}
use Rattle.quick_cache_containers.proofs.CopiedNodes.{IsSound-copied, view_of-copied}
use Rattle.quick_cache_containers.proofs.PartedRings.{IsParted-nodes}
use Rattle.quick_cache_containers.specs.Nodes.{item_of}
use Rattle.quick_cache_containers.proofs.linked_slab.LinkedSlab.try_copy.Goals as goal

pub invariant_of-result : goal.invariant_of-result
invariant_of-result g c =
    IsSound-copied (g.C.CopyItem.is_copy c.args.copier.now) c.self.inside.nodes.items
    c.in_ok-copy_nodes.field-0.items
    (rw (← c.as_slice.ensures.value) c.in_ok-copy_nodes.ensures.copies)
    c.self.inside.next_free.value c.self.invariant

pub returns-clause-copies : goal.returns-clause-copies
returns-clause-copies g c =
    let old = c.self.inside.nodes in
    let new = c.in_ok-copy_nodes.field-0 in
    rw (← c.self.view_is)
    (view_of-copied (g.C.CopyItem.is_copy c.args.copier.now) old.items new.items
    (rw (← c.as_slice.ensures.value) c.in_ok-copy_nodes.ensures.copies)
    c.self.inside.next_free.value
    (room_of (vec_capacity old) (vec_len old))
    (room_of (vec_capacity new) (vec_len new)))

pub returns-clause-parted : goal.returns-clause-parted
returns-clause-parted g c =
    let new = c.in_ok-copy_nodes.field-0 in
    IsParted-nodes item_of new.items c.self.inside.next_free.value
    (vec_capacity new) (vec_len new) (omega arith) (invariant_of-result g c)
