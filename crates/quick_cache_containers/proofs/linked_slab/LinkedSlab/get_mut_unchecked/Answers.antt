use Rattle.std.proofs.Common.{None, is_some, refl, sym, ap, ◌∙◌, vec_len, vec_capacity}
use Rattle.quick_cache_containers.specs.Links.{room_of}
use Rattle.quick_cache_containers.proofs.NodeFields.{map-with, map-set_kept, field_read, taken_in_nodes}
use Rattle.quick_cache_containers.proofs.SlabViews.{successor-view, IsSound-rewritten, view-rewritten}
use Rattle.quick_cache_containers.specs.Nodes.{item_of, next_link, prev_link, holding}
use Rattle.quick_cache_containers.proofs.linked_slab.LinkedSlab.get_mut_unchecked.Goals as goal

pub item_mut-requires : goal.item_mut-requires
item_mut-requires g c =
    let nodes = c.self.inside.nodes.items in
    let taken = rw (← c.self.view_is) at c.requires in
    ap (λ n. is_some (item_of n)) c.index_mut-node.ensures.value
    ∙ ap is_some (field_read item_of nodes c.args.token.value c.place.result
    c.index_mut-node.result.now None c.place.ensures
    (taken_in_nodes item_of nodes c.args.token.value taken))
    ∙ taken

-- the node differs in its item alone
pub invariant_of-self-lent : goal.invariant_of-self-lent
invariant_of-self-lent g c w =
    let nodes = c.self.inside.nodes.items in
    let taken = rw (← c.self.view_is) at c.requires in
    let old = c.index_mut-node.result.now in
    let new = holding old w in
    let slots = map-with item_of nodes c.args.token.value c.place.result new c.place.ensures in
    let nexts = map-set_kept next_link nodes c.place.result new old
    (ap next_link c.index_mut-node.ensures.value) in
    let prevs = map-set_kept prev_link nodes c.place.result new old
    (ap prev_link c.index_mut-node.ensures.value) in
    rw (slots, nexts, prevs) (IsSound-rewritten _ _ _ _ c.args.token.value w taken c.self.invariant)

pub returns : goal.returns
returns g c =
    let nodes = c.self.inside.nodes in
    let taken = rw (← c.self.view_is) at c.requires in
    let old = c.index_mut-node.result.now in
    let within = taken_in_nodes item_of nodes.items c.args.token.value taken in
    let item = field_read item_of nodes.items c.args.token.value c.place.result old None
    c.place.ensures within in
    let next = field_read next_link nodes.items c.args.token.value c.place.result old 0
    c.place.ensures within in
    let behind = successor-view _ _ _ c.self.inside.next_free.value
    (room_of (vec_capacity nodes) (vec_len nodes)) c.args.token.value c.self.invariant.linked
    taken in
    let slots = λ (w : g.row.T.Denot). map-with item_of nodes.items c.args.token.value
    c.place.result (holding old w) c.place.ensures in
    let nexts = λ (w : g.row.T.Denot). map-set_kept next_link nodes.items c.place.result
    (holding old w) old
    (ap next_link c.index_mut-node.ensures.value) in
    let view = λ (w : g.row.T.Denot). view-rewritten _ _ c.self.inside.next_free.value
    (room_of (vec_capacity nodes) (vec_len nodes)) c.args.token.value w taken in (
      (refl, λ w. rw (← c.self.view_is, slots w, nexts w) (view w)),
      record {
        writes_back = tt;
        item = rw (← c.self.view_is) (sym item ∙ ap item_of (sym c.index_mut-node.ensures.value)
            ∙ c.item_mut.ensures.value);
        next = rw (← c.self.view_is) (c.next-next.ensures
            ∙ ap next_link c.index_mut-node.ensures.value ∙ next ∙ sym behind);
      },
    )
