use Rattle.std.proofs.Common.{map, None, is_some, sym, ap, ◌∙◌}
use Rattle.quick_cache_containers.specs.LinkedSlab.{with_token}
use Rattle.quick_cache_containers.proofs.NodeFields.{map-with, field_read, taken_in_nodes, written_field}
use Rattle.quick_cache_containers.specs.Nodes.{item_of, next_link, prev_link}
use Rattle.quick_cache_containers.proofs.linked_slab.links.vacate.Goals as goal

pub vacate-requires : goal.vacate-requires
vacate-requires g c =
    let within = taken_in_nodes item_of c.args.nodes.now c.args.token.value c.requires in
    ap is_some (field_read item_of c.args.nodes.now c.args.token.value c.place.result
    c.index-nodes-place.result None c.place.ensures within)
    ∙ c.requires

pub returns-clause-item : goal.returns-clause-item
returns-clause-item g c =
    let within = taken_in_nodes item_of c.args.nodes.now c.args.token.value c.requires in
    sym (field_read item_of c.args.nodes.now c.args.token.value c.place.result
    c.index-nodes-place.result None c.place.ensures within)
    ∙ c.vacate.ensures.item

pub returns-clause-slots : goal.returns-clause-slots
returns-clause-slots g c =
    let slots = map item_of c.args.nodes.now in
    map-with item_of c.args.nodes.now c.args.token.value c.place.result _ c.place.ensures
    ∙ ap (with_token slots c.args.token.value) c.vacate.ensures.free

pub returns-clause-nexts : goal.returns-clause-nexts
returns-clause-nexts g c =
    let nexts = map next_link c.args.nodes.now in
    map-with next_link c.args.nodes.now c.args.token.value c.place.result _ c.place.ensures
    ∙ ap (with_token nexts c.args.token.value) c.vacate.ensures.next

pub returns-clause-prevs : goal.returns-clause-prevs
returns-clause-prevs g c =
    let within = taken_in_nodes item_of c.args.nodes.now c.args.token.value c.requires in
    written_field prev_link c.args.nodes.now c.args.token.value c.place.result _
    c.place.ensures within
