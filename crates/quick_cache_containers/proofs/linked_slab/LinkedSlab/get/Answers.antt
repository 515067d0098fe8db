use Rattle.std.proofs.Common.{Bor, vec_len, vec_capacity, arith}
use Rattle.quick_cache_containers.specs.Links.{room_of}
use Rattle.quick_cache_containers.proofs.SlabViews.{successor_found}
use Rattle.quick_cache_containers.proofs.PartedRings.{alone_found, IsParted-nodes}
use Rattle.quick_cache_containers.specs.Nodes.{item_of}
use Rattle.quick_cache_containers.proofs.linked_slab.LinkedSlab.get.Goals as goal

pub returns-clause-next : goal.returns-clause-next
returns-clause-next g c =
    let nodes = c.self.inside.nodes in
    let item = rw c.as_slice.ensures.value at c.get.ensures.item in
    let next = rw c.as_slice.ensures.value at c.get.ensures.next in
    rw (← c.self.view_is) (successor_found _ _ _ c.self.inside.next_free.value
    (room_of (vec_capacity nodes) (vec_len nodes)) c.args.token.value
    (λ (x : Bor g.row.T.Denot). x.now) _ c.self.invariant.linked item next)

pub returns-clause-alone : goal.returns-clause-alone
returns-clause-alone g c =
    let nodes = c.self.inside.nodes in
    let item = rw c.as_slice.ensures.value at c.get.ensures.item in
    let next = rw c.as_slice.ensures.value at c.get.ensures.next in
    rw (← c.self.view_is) (alone_found _ _ _ c.self.inside.next_free.value
    (room_of (vec_capacity nodes) (vec_len nodes)) c.args.token.value
    (λ (x : Bor g.row.T.Denot). x.now) _ c.self.invariant.linked item next)

pub returns-clause-parted : goal.returns-clause-parted
returns-clause-parted g c =
    let nodes = c.self.inside.nodes in
    rw (← c.self.view_is) (IsParted-nodes item_of nodes.items c.self.inside.next_free.value
    (vec_capacity nodes) (vec_len nodes) (omega arith) c.self.invariant)
