use Rattle.std.proofs.Common.{vec_len, vec_capacity}
use Rattle.quick_cache_containers.specs.Links.{room_of}
use Rattle.quick_cache_containers.proofs.SlabViews.{full-is}
use Rattle.quick_cache_containers.proofs.linked_slab.LinkedSlab.next_free.Goals as goal

pub returns-clause-full : goal.returns-clause-full
returns-clause-full g c =
    let nodes = c.self.inside.nodes in
    rw (← c.self.view_is) (full-is _ _ _ _
    (room_of (vec_capacity nodes) (vec_len nodes)) c.self.invariant)
