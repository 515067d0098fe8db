use Rattle.std.proofs.Common.{map, ◌≡◌, ◌<◌, None, length, get_or, is_some, sym, ap, ◌∙◌, arith}
use Rattle.std.proofs.lemmas.List.{get_or-map, length-map}
use Rattle.std.proofs.lemmas.List.Sums.{count_by_more_yes, count_by_more_no}
use Rattle.quick_cache_containers.proofs.linked_slab.links.occupied_count.Goals as goal
use Rattle.quick_cache_containers.specs.Nodes.{item_of}
use Rattle.quick_cache_containers.proofs.linked_slab.links.occupied_count.Goals.{then-is_occupied, else-is_occupied}

-- the slot that the loop looks at
pub loop-node-preserved : goal.loop-node-preserved
loop-node-preserved g c =
    let nodes = c.args.nodes.now in
    let i = c.loop-node.node-index in
    let below : i < length (map item_of nodes) = omega (arith, length-map nodes item_of) in
    let read : is_some (item_of c.node-item.result) ≡ is_some (get_or (map item_of nodes) i None) =
    ap (λ n. is_some (item_of n)) c.node-item.is
    ∙ ap is_some (sym (get_or-map item_of nodes i c.node-item.result None (omega arith)))
    in
    elim c.if-is_occupied.branch [
      | then-is_occupied w ↦
          let more = count_by_more_yes is_some (map item_of nodes) i None below
          (sym read ∙ sym c.is_occupied.ensures ∙ w.if-is_occupied.true) in
          rw w.count-is (
            omega (arith, c.loop-node.invariant.0),
            omega
                (arith, c.loop-node.invariant.1),
          )
      | else-is_occupied w ↦
          let same = count_by_more_no is_some (map item_of nodes) i None below
          (sym read ∙ sym c.is_occupied.ensures ∙ w.if-is_occupied.false) in
          rw w.count-is (
            omega (arith, c.loop-node.invariant.0),
            omega
                (arith, c.loop-node.invariant.1),
          )
    ]
