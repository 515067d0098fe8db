use Rattle.std.proofs.Common.{◌∙◌, arith}
use Rattle.quick_cache_store.specs.ListSlots.{ring_stand}
use Rattle.quick_cache_store.proofs.lists.SoundLemmas.{ring_light}
use Rattle.quick_cache_store.specs.Rings.{ring_of}
use Rattle.quick_cache_store.proofs.lists.TurnLemmas.{weight_queue, IsRingOf-queue}
use Rattle.quick_cache_store.proofs.lists.lists.Lists.weight.Goals as goal

pub returns-clause-weight : goal.returns-clause-weight
returns-clause-weight g c =
    let i = c.self.inside in
    rw (← c.self.view_is) (c.weight.ensures
    ∙ weight_queue i.slots i.index i.rings c.self.invariant.standing c.args.queue)

pub returns-clause-within : goal.returns-clause-within
returns-clause-within g c =
    let i = c.self.inside in
    omega (
      arith,
      c.weight.ensures,
      ring_light i.slots (ring_of c.args.queue i.rings) (ring_stand c.args.queue)
          c.self.invariant.keyed.few c.self.invariant.keyed.light
          (IsRingOf-queue i.slots i.index i.rings c.self.invariant.standing c.args.queue),
    )
