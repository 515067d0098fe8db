use Rattle.std.proofs.Common.{None, is_some, ap, ◌∙◌, arith}
use Rattle.quick_cache_containers.proofs.NodeFields.{field_read}
use Rattle.quick_cache_containers.specs.Nodes.{item_of}
use Rattle.quick_cache_containers.proofs.linked_slab.links.is_occupied.Goals as goal

pub returns-then-at-nodes : goal.returns-then-at-nodes
returns-then-at-nodes g c =
    c.is_occupied.ensures ∙ ap (λ n. is_some (item_of n)) c.index-nodes-at.is
    ∙ ap is_some (field_read item_of c.args.nodes.now
    c.args.token.value c.place-at.result c.index-nodes-at.result None c.place-at.ensures
    (omega arith))
