use Rattle.std.proofs.Common.{map, ◌≡◌, ◌≢◌, sym, ◌∙◌, arith}
use Rattle.quick_cache_containers.specs.Links.{link_of}
use Rattle.quick_cache_containers.proofs.NodeFields.{taken_in_nodes, prev_taken}
use Rattle.quick_cache_containers.proofs.RingEditsOfSlots.{Unlinks-alone, Unlinks-written}
use Rattle.quick_cache_containers.specs.Nodes.{item_of, next_link}
use Rattle.quick_cache_containers.proofs.linked_slab.links.unlink.Goals as goal

pub next_of-next-requires : goal.next_of-next-requires
next_of-next-requires g c = taken_in_nodes item_of c.args.nodes.now c.args.token.value c.requires.taken

pub returns-then-get-clause-unlinks : goal.returns-then-get-clause-unlinks
returns-then-get-clause-unlinks g c =
    let own : link_of (map next_link c.args.nodes.now) c.args.token.value ≡ c.args.token.value =
    sym c.next_of-next.ensures ∙ omega arith in
    Unlinks-alone _ _ _ c.args.token.value c.requires.linked c.requires.taken own

pub prev_of-prev-requires : goal.prev_of-prev-requires
prev_of-prev-requires g c = c.requires.taken

pub set_prev-requires : goal.set_prev-requires
set_prev-requires g c = rw c.set_next.ensures.slots c.requires.taken

pub set_next-requires-2 : goal.set_next-requires-2
set_next-requires-2 g c =
    let prev = prev_taken item_of c.args.nodes.now c.args.token.value _ _
    c.requires.linked c.requires.taken in
    let within = taken_in_nodes item_of c.args.nodes.now _ prev in
    omega arith

pub returns-clause-unlinks : goal.returns-clause-unlinks
returns-clause-unlinks g c =
    let more : c.next_of-next.result.value ≢ c.args.token.value = λ same. omega arith in
    let written = Unlinks-written _ _ _ c.args.token.value c.next_of-next.result.value
    c.prev_of-prev.result.value c.next_of-next.ensures c.prev_of-prev.ensures c.requires.linked
    c.requires.taken more in
    rw (
      c.set_next-2.ensures.nexts,
      c.set_prev-2.ensures.nexts,
      c.set_prev.ensures.nexts,
      c.set_next.ensures.nexts,
      c.set_next-2.ensures.prevs,
      c.set_prev-2.ensures.prevs,
      c.set_prev.ensures.prevs,
      c.set_next.ensures.prevs,
    ) written
