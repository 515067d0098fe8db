use Rattle.std.proofs.Common.{ap, ◌∙◌}
use Rattle.quick_cache_containers.proofs.NodeFields.{field_read}
use Rattle.quick_cache_containers.specs.Nodes.{next_link}
use Rattle.quick_cache_containers.proofs.linked_slab.links.next_of.Goals as goal

pub returns : goal.returns
returns g c = c.next.ensures ∙ ap next_link c.index-nodes-place.is
    ∙ field_read next_link c.args.nodes.now c.args.token.value
    c.place.result c.index-nodes-place.result 0 c.place.ensures c.requires
