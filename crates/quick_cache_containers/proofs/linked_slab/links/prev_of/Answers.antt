use Rattle.std.proofs.Common.{ap, ◌∙◌}
use Rattle.quick_cache_containers.proofs.NodeFields.{field_read, taken_in_nodes}
use Rattle.quick_cache_containers.specs.Nodes.{item_of, prev_link}
use Rattle.quick_cache_containers.proofs.linked_slab.links.prev_of.Goals as goal

pub returns : goal.returns
returns g c =
    let within = taken_in_nodes item_of c.args.nodes.now c.args.token.value c.requires in
    c.prev.ensures ∙ ap prev_link c.index-nodes-place.is ∙ field_read prev_link c.args.nodes.now c.args.token.value
    c.place.result c.index-nodes-place.result 0 c.place.ensures within
