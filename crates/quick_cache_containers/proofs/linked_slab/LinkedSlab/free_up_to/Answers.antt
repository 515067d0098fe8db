use Rattle.std.proofs.Common.{map, ◌≡◌, ◌≢◌, sym, ◌∙◌, arith}
use Rattle.quick_cache_containers.specs.Links.{link_of}
use Rattle.std.proofs.lemmas.List.{length-map}
use Rattle.quick_cache_containers.proofs.SlabViews.{free_is}
use Rattle.quick_cache_containers.proofs.FreeTokens.{IsFreeRest-start, IsFreeRest-past, IsFreeRest-last, IsFreeRest-step}
use Rattle.quick_cache_containers.specs.Nodes.{item_of, next_link}
use Rattle.quick_cache_containers.proofs.linked_slab.LinkedSlab.free_up_to.Goals as goal

pub loop-found-init : goal.loop-found-init
loop-found-init g c =
    let s = c.self.invariant in
    let free = free_is _ _ _ c.self.inside.next_free.value s in (
      rw (← c.self.view_is, c.as_slice-nodes.ensures.value, free)
          (IsFreeRest-start _ _ _ _ s.are_free),
      omega arith,
    )

pub returns-then-get : goal.returns-then-get
returns-then-get g c =
    let nodes = c.as_slice-nodes.result.now in
    let long = length-map nodes item_of in
    let own : link_of (map next_link nodes) c.loop-found.token.value ≡ c.loop-found.token.value =
    sym c.next_of-link.ensures ∙ omega arith in
    let all = IsFreeRest-last _ _ _ _ _ c.loop-found.invariant.0 (omega arith) own in
    omega arith

pub loop-found-preserved : goal.loop-found-preserved
loop-found-preserved g c =
    let nodes = c.as_slice-nodes.result.now in
    let long = length-map nodes item_of in
    let link : link_of (map next_link nodes) c.loop-found.token.value ≡ c.next_of-link.result.value =
    sym c.next_of-link.ensures in
    let more : link_of (map next_link nodes) c.loop-found.token.value ≢ c.loop-found.token.value =
    λ own. omega arith in
    let step = IsFreeRest-step _ _ _ _ _ c.loop-found.invariant.0 (omega arith) more in
    (rw link at step, omega arith)

pub returns-else-get-nodes : goal.returns-else-get-nodes
returns-else-get-nodes g c =
    let long = length-map c.as_slice-nodes.result.now item_of in
    let all = IsFreeRest-past _ _ _ _ _ c.loop-found.invariant.0 (omega arith) in
    omega arith
