use Rattle.std.proofs.Common.{map, None, is_some, ap, ◌∙◌}
use Rattle.quick_cache_containers.specs.LinkedSlab.{with_token}
use Rattle.quick_cache_containers.proofs.NodeFields.{map-with, field_read}
use Rattle.quick_cache_containers.specs.Nodes.{item_of, next_link, prev_link}
use Rattle.quick_cache_containers.proofs.linked_slab.links.fill.Goals as goal

pub fill-requires : goal.fill-requires
fill-requires g c =
    ap is_some (field_read item_of c.args.nodes.now c.args.token.value c.place.result
    c.index-nodes-place.result None c.place.ensures c.requires.within)
    ∙ c.requires.free

pub returns-clause-slots : goal.returns-clause-slots
returns-clause-slots g c =
    let slots = map item_of c.args.nodes.now in
    map-with item_of c.args.nodes.now c.args.token.value c.place.result _ c.place.ensures
    ∙ ap (with_token slots c.args.token.value) c.fill.ensures.item

pub returns-clause-nexts : goal.returns-clause-nexts
returns-clause-nexts g c =
    let nexts = map next_link c.args.nodes.now in
    map-with next_link c.args.nodes.now c.args.token.value c.place.result _ c.place.ensures
    ∙ ap (with_token nexts c.args.token.value) c.fill.ensures.next

pub returns-clause-prevs : goal.returns-clause-prevs
returns-clause-prevs g c =
    let prevs = map prev_link c.args.nodes.now in
    map-with prev_link c.args.nodes.now c.args.token.value c.place.result _ c.place.ensures
    ∙ ap (with_token prevs c.args.token.value) c.fill.ensures.prev

pub returns-clause-link : goal.returns-clause-link
returns-clause-link g c = c.fill.ensures.link ∙ field_read next_link c.args.nodes.now
    c.args.token.value c.place.result c.index-nodes-place.result 0 c.place.ensures c.requires.within
