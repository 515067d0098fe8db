use Rattle.std.proofs.Common.{rules, ◌≡◌, ◌<◌, ◌+◌, length, slice_index_or, ◌∷◌, ◌++◌, [], take}
use Rattle.std.proofs.lemmas.List.{take_more}
use Rattle.std.proofs.lemmas.List.Elements.{AllZip-push}
use Rattle.quick_cache_containers.specs.Links.{IsNodeCopy}
use Rattle.quick_cache_containers.proofs.linked_slab.copies.copy_nodes.Goals as goal

-- one copy more
pub loop-i-preserved : goal.loop-i-preserved
loop-i-preserved g c =
    let xs = c.args.nodes.now in
    let node = c.index-nodes-i.result in
    let at : slice_index_or xs c.loop-i.i node ≡ node = search rules in
    let within : c.loop-i.i < length xs = search rules in
    let more : take (c.loop-i.i + 1) xs ≡ take c.loop-i.i xs ++ node ∷ [] =
    rw at at (take_more xs c.loop-i.i node within) in
    record {
      copied = rw (more, c.push_reserved.ensures.items)
          (AllZip-push (IsNodeCopy (g.C.CopyItem.is_copy c.args.copier.now))
          (take c.loop-i.i xs) c.loop-i.copies.items node c.in_ok-copy_node.field-0
          c.loop-i.invariant.copied c.in_ok-copy_node.ensures.copies);
      len = search rules;
      room = search rules;
    }
