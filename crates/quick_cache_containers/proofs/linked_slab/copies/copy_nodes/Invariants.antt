use Rattle.std.proofs.Common.{◌≡◌, ◌≤◌, length, take, vec_len, vec_capacity}
use Rattle.std.specs.List.{AllZip}
use Rattle.quick_cache_containers.specs.Links.{IsNodeCopy}
use Rattle.quick_cache_containers.proofs.linked_slab.copies.copy_nodes.Given as goal

-- the nodes up to here are copied, and there is room for the rest
abbrev pub invariant-loop-i : goal.invariant-loop-i
invariant-loop-i g l = record {
  copied : AllZip (IsNodeCopy (g.C.CopyItem.is_copy l.copier)) (take l.i l.nodes) l.copies.items;
  len : vec_len l.copies ≡ l.i;
  room : length l.nodes ≤ vec_capacity l.copies;
}
