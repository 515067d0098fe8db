use Rattle.std.proofs.Common.{map, ap, ◌∙◌}
use Rattle.quick_cache_containers.specs.LinkedSlab.{with_token}
use Rattle.quick_cache_containers.proofs.NodeFields.{map-set_kept, map-with}
use Rattle.quick_cache_containers.specs.Nodes.{item_of, next_link, prev_link}
use Rattle.quick_cache_containers.proofs.linked_slab.links.set_next.Goals as goal

pub returns-clause-slots : goal.returns-clause-slots
returns-clause-slots g c = map-set_kept item_of c.args.nodes.now c.place.result _
    c.index-nodes-place.result c.set_next.ensures.item

pub returns-clause-nexts : goal.returns-clause-nexts
returns-clause-nexts g c =
    let nexts = map next_link c.args.nodes.now in
    map-with next_link c.args.nodes.now c.args.token.value c.place.result _ c.place.ensures
    ∙ ap (with_token nexts c.args.token.value) c.set_next.ensures.next

pub returns-clause-prevs : goal.returns-clause-prevs
returns-clause-prevs g c = map-set_kept prev_link c.args.nodes.now c.place.result _
    c.index-nodes-place.result c.set_next.ensures.prev
