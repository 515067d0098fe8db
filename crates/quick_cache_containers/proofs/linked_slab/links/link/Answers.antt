use Rattle.std.proofs.Common.{arith}
use Rattle.quick_cache_containers.proofs.NodeFields.{taken_in_nodes, prev_taken}
use Rattle.quick_cache_containers.proofs.RingEditsOfSlots.{Links-written}
use Rattle.quick_cache_containers.specs.Nodes.{item_of}
use Rattle.quick_cache_containers.proofs.linked_slab.links.link.Goals as goal

pub prev_of-last-requires : goal.prev_of-last-requires
prev_of-last-requires g c = c.requires.head

pub set_next-requires : goal.set_next-requires
set_next-requires g c =
    let prev = prev_taken item_of c.args.nodes.now c.args.head.value _ _
    c.requires.linked c.requires.head in
    let within = taken_in_nodes item_of c.args.nodes.now _ prev in
    omega arith

pub returns-clause-links : goal.returns-clause-links
returns-clause-links g c =
    let written = Links-written _ _ _ c.args.token.value c.args.head.value
    c.prev_of-last.result.value c.prev_of-last.ensures c.requires.linked c.requires.taken
    c.requires.head c.requires.alone c.requires.apart in
    rw (
      c.set_prev-2.ensures.nexts,
      c.set_next-2.ensures.nexts,
      c.set_next.ensures.nexts,
      c.set_prev.ensures.nexts,
      c.set_prev-2.ensures.prevs,
      c.set_next-2.ensures.prevs,
      c.set_next.ensures.prevs,
      c.set_prev.ensures.prevs,
    ) written
