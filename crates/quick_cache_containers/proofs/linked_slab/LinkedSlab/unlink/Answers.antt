use Rattle.std.proofs.Common.{length, ap, ◌∙◌, vec_len, vec_capacity, arith}
use Rattle.quick_cache_containers.specs.Links.{room_of}
use Rattle.std.proofs.lemmas.List.{with_items_is}
use Rattle.quick_cache_containers.proofs.SlabViews.{IsSound-unlinked, view-unlinked, IsNextOf-is}
use Rattle.quick_cache_containers.proofs.PartedRings.{ring_from-unlinked, IsParted-nodes}
use Rattle.quick_cache_containers.proofs.EditsByToken.{UnlinksToken-from}
use Rattle.quick_cache_containers.specs.LinkedSlab.{ring_from, IsParted}
use Rattle.quick_cache_containers.specs.Nodes.{item_of}
use Rattle.quick_cache_containers.proofs.linked_slab.LinkedSlab.unlink.Goals as goal

pub unlink-requires-clause-linked : goal.unlink-requires-clause-linked
unlink-requires-clause-linked g c = rw c.as_mut_slice.ensures.value c.self.invariant.linked

pub invariant_of-self : goal.invariant_of-self
invariant_of-self g c =
    let items = with_items_is c.self.inside.nodes c.unlink.new.nodes (omega arith) in
    let done = rw c.as_mut_slice.ensures.value at c.unlink.ensures.unlinks in
    let slots = rw c.as_mut_slice.ensures.value at c.unlink.ensures.slots in
    rw (items, slots) (IsSound-unlinked _ _ _ _ c.args.token.value _ _ c.self.invariant done)

pub returns-clause-unlinked : goal.returns-clause-unlinked
returns-clause-unlinked g c =
    let nodes = c.self.inside.nodes in
    let items = with_items_is nodes c.unlink.new.nodes (omega arith) in
    let done = rw c.as_mut_slice.ensures.value at c.unlink.ensures.unlinks in
    let slots = rw c.as_mut_slice.ensures.value at c.unlink.ensures.slots in
    rw (← c.self.view_is, items, slots)
    (view-unlinked _ _ _ _ (room_of (vec_capacity nodes) (vec_len nodes)) c.args.token.value _ _
    c.self.invariant done)

pub returns-clause-next : goal.returns-clause-next
returns-clause-next g c =
    let nodes = c.self.inside.nodes in
    let taken = rw (← c.self.view_is) at c.requires in
    let told = rw c.as_mut_slice.ensures.value at c.unlink.ensures.next in
    rw (← c.self.view_is) (IsNextOf-is _ _ _ c.self.inside.next_free.value
    (room_of (vec_capacity nodes) (vec_len nodes)) c.args.token.value _ c.self.invariant.linked
    taken told)

pub returns-clause-alone : goal.returns-clause-alone
returns-clause-alone g c =
    let nodes = c.self.inside.nodes in
    let items = with_items_is nodes c.unlink.new.nodes (omega arith) in
    let done = rw c.as_mut_slice.ensures.value at c.unlink.ensures.unlinks in
    let slots = rw c.as_mut_slice.ensures.value at c.unlink.ensures.slots in
    let taken = rw (← c.self.view_is) at c.requires in
    let view = view-unlinked _ _ _ _
    (room_of (vec_capacity nodes) (vec_len nodes)) c.args.token.value _ _ c.self.invariant done
    in
    rw (items, slots) (ap (λ s. ring_from s c.args.token.value) view
    ∙ ring_from-unlinked _ _ c.self.inside.next_free.value
    (room_of (vec_capacity nodes) (vec_len nodes)) c.args.token.value taken)

pub returns-clause-edit : goal.returns-clause-edit
returns-clause-edit g c =
    let nodes = c.self.inside.nodes in
    let parted : IsParted c.args.self.now =
    rw (← c.self.view_is) (IsParted-nodes item_of nodes.items c.self.inside.next_free.value
    (vec_capacity nodes) (vec_len nodes) (omega arith) c.self.invariant) in
    UnlinksToken-from c.args.self.now _ c.args.token.value parted c.requires
    (returns-clause-unlinked g c)

pub returns-clause-parted : goal.returns-clause-parted
returns-clause-parted g c =
    let items = with_items_is c.self.inside.nodes c.unlink.new.nodes (omega arith) in
    IsParted-nodes item_of _ _ _ _ (omega (arith, ap length items)) (invariant_of-self g c)
