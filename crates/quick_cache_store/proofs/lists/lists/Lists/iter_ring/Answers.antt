use Rattle.std.proofs.Common.{◌∙◌}
use Rattle.quick_cache_store.specs.Rings.{ring_of}
use Rattle.quick_cache_store.specs.ListSlots.{ring_stand}
use Rattle.quick_cache_store.proofs.lists.TurnLemmas.{IsRingOf-queue, items_queue, not_loading, not_ghost}
use Rattle.quick_cache_store.proofs.lists.WalkLemmas.{IsWalk-ring, AllByRecursion-walk_of, items_in-gather}
use Rattle.quick_cache_store.proofs.lists.lists.Lists.iter_ring.Goals as goal

pub invariant_of-result : goal.invariant_of-result
invariant_of-result g c =
    let i = c.self.inside in
    let is = IsRingOf-queue i.slots i.index i.rings c.self.invariant.standing c.args.queue in
    rw (c.len.ensures, c.queue-tokens.ensures.tokens) (IsWalk-ring i.slots
    (ring_of c.args.queue i.rings) (ring_stand c.args.queue) is)

pub invariant_of-result-2 : goal.invariant_of-result-2
invariant_of-result-2 g c =
    let i = c.self.inside in
    let is = IsRingOf-queue i.slots i.index i.rings c.self.invariant.standing c.args.queue in
    rw c.queue-tokens.ensures.tokens (AllByRecursion-walk_of i.slots
    (ring_of c.args.queue i.rings) (ring_stand c.args.queue) is (not_loading c.args.queue)
    (not_ghost c.args.queue))

pub returns : goal.returns
returns g c =
    let i = c.self.inside in
    rw (← c.self.view_is, c.queue-tokens.ensures.tokens)
    (items_in-gather i.slots (ring_of c.args.queue i.rings).tokens
    ∙ items_queue i.slots i.index i.rings c.self.invariant.standing c.args.queue)
