use Rattle.std.proofs.Common.{length, ap, ◌∙◌, vec_len, vec_capacity, arith}
use Rattle.quick_cache_containers.specs.Links.{room_of}
use Rattle.std.proofs.lemmas.List.{with_items_is}
use Rattle.quick_cache_containers.proofs.SlabViews.{alone-to_link, IsSound-linked, view-linked}
use Rattle.quick_cache_containers.proofs.PartedRings.{ring_from-linked, IsParted-nodes}
use Rattle.quick_cache_containers.proofs.EditsByToken.{LinksToken-from}
use Rattle.quick_cache_containers.specs.LinkedSlab.{ring_from, IsParted}
use Rattle.quick_cache_containers.specs.Nodes.{item_of}
use Rattle.quick_cache_containers.proofs.linked_slab.LinkedSlab.link.Goals as goal

pub link-requires-clause-linked : goal.link-requires-clause-linked
link-requires-clause-linked g c = rw c.as_mut_slice.ensures.value c.self.invariant.linked

pub link-requires-clause-alone : goal.link-requires-clause-alone
link-requires-clause-alone g c =
    let nodes = c.self.inside.nodes in
    let taken = rw (← c.self.view_is) at c.requires.occupied in
    let alone = rw (← c.self.view_is) at c.requires.alone in
    rw c.as_mut_slice.ensures.value
    (alone-to_link _ _ _ c.self.inside.next_free.value
    (room_of (vec_capacity nodes) (vec_len nodes)) c.args.token.value c.self.invariant.linked
    taken alone)

pub invariant_of-self : goal.invariant_of-self
invariant_of-self g c =
    let items = with_items_is c.self.inside.nodes c.link.new.nodes (omega arith) in
    let done = rw c.as_mut_slice.ensures.value at c.link.ensures.links in
    let slots = rw c.as_mut_slice.ensures.value at c.link.ensures.slots in
    rw (items, slots) (IsSound-linked _ _ _ _ c.args.token.value c.in-Some.head.value _ _
    c.self.invariant done)

pub returns-clause-linked : goal.returns-clause-linked
returns-clause-linked g c =
    let nodes = c.self.inside.nodes in
    let items = with_items_is nodes c.link.new.nodes (omega arith) in
    let done = rw c.as_mut_slice.ensures.value at c.link.ensures.links in
    let slots = rw c.as_mut_slice.ensures.value at c.link.ensures.slots in
    rw (c.in-Some.is, ← c.self.view_is, items, slots)
    (view-linked _ _ _ _ (room_of (vec_capacity nodes) (vec_len nodes)) c.args.token.value
    c.in-Some.head.value _ _ c.self.invariant done)

pub returns-clause-ring : goal.returns-clause-ring
returns-clause-ring g c =
    let nodes = c.self.inside.nodes in
    let items = with_items_is nodes c.link.new.nodes (omega arith) in
    let done = rw c.as_mut_slice.ensures.value at c.link.ensures.links in
    let slots = rw c.as_mut_slice.ensures.value at c.link.ensures.slots in
    let view = view-linked _ _ _ _
    (room_of (vec_capacity nodes) (vec_len nodes)) c.args.token.value c.in-Some.head.value _ _
    c.self.invariant done in
    let taken = rw (c.in-Some.is, ← c.self.view_is) at c.requires.head in
    let apart = rw c.in-Some.is at c.requires.apart in
    rw (c.in-Some.is, ← c.self.view_is, items, slots)
    (ap (λ s. ring_from s c.in-Some.head.value) view
    ∙ ring_from-linked _ _ _ _ (room_of (vec_capacity nodes) (vec_len nodes)) c.args.token.value
    c.in-Some.head.value c.self.invariant taken apart)

pub returns-clause-edit : goal.returns-clause-edit
returns-clause-edit g c =
    let nodes = c.self.inside.nodes in
    let parted : IsParted c.args.self.now =
    rw (← c.self.view_is) (IsParted-nodes item_of nodes.items c.self.inside.next_free.value
    (vec_capacity nodes) (vec_len nodes) (omega arith) c.self.invariant) in
    let joins = rw c.in-Some.is at (returns-clause-ring g c) in
    let done = rw c.in-Some.is at (returns-clause-linked g c) in
    rw c.in-Some.is (LinksToken-from c.args.self.now _ c.args.token.value c.in-Some.head.value
    parted c.requires.occupied joins done)

pub returns-clause-parted : goal.returns-clause-parted
returns-clause-parted g c =
    let items = with_items_is c.self.inside.nodes c.link.new.nodes (omega arith) in
    IsParted-nodes item_of _ _ _ _ (omega (arith, ap length items)) (invariant_of-self g c)
