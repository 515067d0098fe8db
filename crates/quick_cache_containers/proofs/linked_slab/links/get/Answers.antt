use Rattle.std.proofs.Common.{None, sym, ap, ◌∙◌, arith}
use Rattle.quick_cache_containers.proofs.NodeFields.{field_read}
use Rattle.quick_cache_containers.specs.Nodes.{item_of, next_link}
use Rattle.quick_cache_containers.proofs.linked_slab.links.get.Goals as goal

pub returns-in-Some-clause-item : goal.returns-in-Some-clause-item
returns-in-Some-clause-item g c =
    sym (field_read item_of c.args.nodes.now c.args.token.value c.place-at.result
    c.index-nodes-at.result None c.place-at.ensures (omega arith))
    ∙ ap item_of (sym c.index-nodes-at.is) ∙ c.in-Some.ensures.item

pub returns-in-Some-clause-next : goal.returns-in-Some-clause-next
returns-in-Some-clause-next g c =
    c.next.ensures ∙ ap next_link c.index-nodes-at.is
    ∙ field_read next_link c.args.nodes.now c.args.token.value c.place-at.result
    c.index-nodes-at.result 0 c.place-at.ensures (omega arith)

pub returns-in-None-clause-absent : goal.returns-in-None-clause-absent
returns-in-None-clause-absent g c =
    sym (field_read item_of c.args.nodes.now c.args.token.value c.place-at.result
    c.index-nodes-at.result None c.place-at.ensures (omega arith))
    ∙ ap item_of (sym c.index-nodes-at.is) ∙ c.in-None.ensures.absent
