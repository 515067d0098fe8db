use Rattle.std.proofs.Common.{map, ap, ◌∙◌}
use Rattle.quick_cache_containers.specs.LinkedSlab.{with_token}
use Rattle.quick_cache_containers.proofs.NodeFields.{map-set_kept, map-with}
use Rattle.quick_cache_containers.specs.Nodes.{item_of, next_link, prev_link}
use Rattle.quick_cache_containers.proofs.linked_slab.links.set_prev.Goals as goal

pub returns-clause-slots : goal.returns-clause-slots
returns-clause-slots g c = map-set_kept item_of c.args.nodes.now c.place.result _
    c.index-nodes-place.result c.set_prev.ensures.item

pub returns-clause-nexts : goal.returns-clause-nexts
returns-clause-nexts g c = map-set_kept next_link c.args.nodes.now c.place.result _
    c.index-nodes-place.result c.set_prev.ensures.next

pub returns-clause-prevs : goal.returns-clause-prevs
returns-clause-prevs g c =
    let prevs = map prev_link c.args.nodes.now in
    map-with prev_link c.args.nodes.now c.args.token.value c.place.result _ c.place.ensures
    ∙ ap (with_token prevs c.args.token.value) c.set_prev.ensures.prev
