use Rattle.std.proofs.Common.{map, None, is_some, ◌≡◌, ◌⊎◌, ◌<◌, ◌≤◌, length, inl, inr, ap, vec_len, vec_capacity, arith}
use Rattle.std.proofs.lemmas.List.{with_items_is, length-map}
use Rattle.quick_cache_containers.specs.Links.{room_of}
use Rattle.quick_cache_containers.proofs.SlabViews.{IsNextOf-is, IsSound-prev, Removes-by}
use Rattle.quick_cache_containers.proofs.AtTokens.{at_token-with_same}
use Rattle.quick_cache_containers.proofs.SlotRings.{taken_within}
use Rattle.quick_cache_containers.proofs.PartedRings.{IsParted-nodes}
use Rattle.quick_cache_containers.proofs.EditsByToken.{RemovesItem-from}
use Rattle.quick_cache_containers.specs.LinkedSlab.{IsParted}
use Rattle.quick_cache_containers.proofs.linked_slab.LinkedSlab.remove_unchecked.Goals as goal
use Rattle.quick_cache_containers.specs.Nodes.{item_of}
use Rattle.quick_cache_containers.proofs.linked_slab.LinkedSlab.remove_unchecked.Goals.{then-get-len, else-get-len}

pub unlink-next-requires-clause-linked : goal.unlink-next-requires-clause-linked
unlink-next-requires-clause-linked g c =
    rw c.as_mut_slice-nodes.ensures.value c.self.invariant.linked

pub invariant_of-self : goal.invariant_of-self
invariant_of-self g c =
    let nodes = c.self.inside.nodes in
    let items = with_items_is nodes c.vacate-item.new.nodes (omega arith) in
    let done = rw c.as_mut_slice-nodes.ensures.value at c.unlink-next.ensures.unlinks in
    let slots = rw c.as_mut_slice-nodes.ensures.value at c.unlink-next.ensures.slots in
    let taken = rw (← c.self.view_is) at c.requires in
    let long = length-map nodes.items item_of in
    let choice : ((c.self.inside.next_free.value ≤ length (map item_of nodes.items))
    × (c.if-get-len.link.value ≡ c.self.inside.next_free.value))
    ⊎ ((length (map item_of nodes.items) < c.self.inside.next_free.value)
    × (c.if-get-len.link.value ≡ c.args.token.value)) =
    elim c.if-get-len.branch [
      | then-get-len w ↦ inl (omega (arith, w.if-get-len.true), rw w.link-is)
      | else-get-len w ↦ inr (omega (arith, w.if-get-len.false), rw w.link-is)
    ] in
    let removes = Removes-by _ _ _ _
    (room_of (vec_capacity nodes) (vec_len nodes)) c.args.token.value _ _
    c.if-get-len.link.value c.self.invariant taken done choice in
    let here = taken_within _ c.args.token.value taken in
    let free = ap is_some (at_token-with_same (map item_of nodes.items)
    c.args.token.value None None here.0 here.1) in
    rw (
      items,
      c.vacate-item.ensures.slots,
      c.vacate-item.ensures.nexts,
      c.vacate-item.ensures.prevs,
      slots,
    ) (IsSound-prev _ _ _ _ c.args.token.value _ free removes.sound)

pub returns-clause-next : goal.returns-clause-next
returns-clause-next g c =
    let nodes = c.self.inside.nodes in
    let taken = rw (← c.self.view_is) at c.requires in
    let told = rw c.as_mut_slice-nodes.ensures.value at c.unlink-next.ensures.next in
    rw (← c.self.view_is) (IsNextOf-is _ _ _ c.self.inside.next_free.value
    (room_of (vec_capacity nodes) (vec_len nodes)) c.args.token.value _ c.self.invariant.linked
    taken told)

pub returns-clause-removed : goal.returns-clause-removed
returns-clause-removed g c =
    let nodes = c.self.inside.nodes in
    let items = with_items_is nodes c.vacate-item.new.nodes (omega arith) in
    let done = rw c.as_mut_slice-nodes.ensures.value at c.unlink-next.ensures.unlinks in
    let slots = rw c.as_mut_slice-nodes.ensures.value at c.unlink-next.ensures.slots in
    let taken = rw (← c.self.view_is) at c.requires in
    let long = length-map nodes.items item_of in
    let choice : ((c.self.inside.next_free.value ≤ length (map item_of nodes.items))
    × (c.if-get-len.link.value ≡ c.self.inside.next_free.value))
    ⊎ ((length (map item_of nodes.items) < c.self.inside.next_free.value)
    × (c.if-get-len.link.value ≡ c.args.token.value)) =
    elim c.if-get-len.branch [
      | then-get-len w ↦ inl (omega (arith, w.if-get-len.true), rw w.link-is)
      | else-get-len w ↦ inr (omega (arith, w.if-get-len.false), rw w.link-is)
    ] in
    let removes = Removes-by _ _ _ _
    (room_of (vec_capacity nodes) (vec_len nodes)) c.args.token.value _ _
    c.if-get-len.link.value c.self.invariant taken done choice in
    rw (← c.self.view_is, items, c.vacate-item.ensures.slots, c.vacate-item.ensures.nexts, slots)
    removes.view

pub returns-clause-edit : goal.returns-clause-edit
returns-clause-edit g c =
    let nodes = c.self.inside.nodes in
    let parted : IsParted c.args.self.now =
    rw (← c.self.view_is) (IsParted-nodes item_of nodes.items c.self.inside.next_free.value
    (vec_capacity nodes) (vec_len nodes) (omega arith) c.self.invariant) in
    RemovesItem-from c.args.self.now _ c.args.token.value parted c.requires (returns-clause-removed g c)

pub returns-clause-parted : goal.returns-clause-parted
returns-clause-parted g c =
    let items = with_items_is c.self.inside.nodes c.vacate-item.new.nodes (omega arith) in
    IsParted-nodes item_of _ _ _ _ (omega (arith, ap length items)) (invariant_of-self g c)
