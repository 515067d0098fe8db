use Rattle.std.proofs.Common.{None, is_some, sym, ap, ◌∙◌, vec_len, vec_capacity}
use Rattle.quick_cache_containers.specs.Links.{room_of}
use Rattle.quick_cache_containers.proofs.NodeFields.{field_read, taken_in_nodes}
use Rattle.quick_cache_containers.proofs.SlabViews.{successor-view}
use Rattle.quick_cache_containers.specs.Nodes.{item_of, next_link}
use Rattle.quick_cache_containers.proofs.linked_slab.LinkedSlab.get_unchecked.Goals as goal

pub item-requires : goal.item-requires
item-requires g c =
    let nodes = c.self.inside.nodes.items in
    let taken = rw (← c.self.view_is) at c.requires in
    ap (λ n. is_some (item_of n)) c.index-node.ensures
    ∙ ap is_some (field_read item_of nodes c.args.token.value c.place.result c.index-node.result.now
    None c.place.ensures (taken_in_nodes item_of nodes c.args.token.value taken))
    ∙ taken

pub returns-clause-item : goal.returns-clause-item
returns-clause-item g c =
    let nodes = c.self.inside.nodes.items in
    let taken = rw (← c.self.view_is) at c.requires in
    let read = field_read item_of nodes c.args.token.value c.place.result c.index-node.result.now
    None c.place.ensures (taken_in_nodes item_of nodes c.args.token.value taken) in
    rw (← c.self.view_is) (sym read ∙ ap item_of (sym c.index-node.ensures) ∙ c.item.ensures)

pub returns-clause-next : goal.returns-clause-next
returns-clause-next g c =
    let nodes = c.self.inside.nodes in
    let taken = rw (← c.self.view_is) at c.requires in
    let read = field_read next_link nodes.items c.args.token.value c.place.result
    c.index-node.result.now 0 c.place.ensures
    (taken_in_nodes item_of nodes.items c.args.token.value taken) in
    let next = successor-view _ _ _ c.self.inside.next_free.value
    (room_of (vec_capacity nodes) (vec_len nodes)) c.args.token.value c.self.invariant.linked
    taken in
    rw (← c.self.view_is) (c.next.ensures ∙ ap next_link c.index-node.ensures ∙ read ∙ sym next)
