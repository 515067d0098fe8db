use Rattle.std.proofs.Common.{ap, refl, arith}
use Rattle.quick_cache_store.specs.Pool.{Pool}
use Rattle.quick_cache_store.specs.Rings.{Rings}
use Rattle.quick_cache_store.proofs.lists.SoundLemmas.{IsStanding-empty, IsKeyed-empty}
use Rattle.quick_cache_store.proofs.lists.lists.Lists.new.Goals as goal

pub invariant_of-result : goal.invariant_of-result
invariant_of-result g c =
    let slots = ap (λ (s : Pool _). s.slots) c.new-slots.ensures in
    let free = ap (λ (s : Pool _). s.free) c.new-slots.ensures in
    let count = c.in_ok-index.ensures.count in
    let rings = c.in_ok-rings.ensures.empty in
    record {
      standing = IsStanding-empty c.new-slots.result c.in_ok-rings.rings slots
          (ap (λ (r : Rings). r.hot) rings) (ap (λ (r : Rings). r.cold) rings)
          (ap (λ (r : Rings). r.ghosts) rings);
      keyed = IsKeyed-empty c.new-slots.result c.in_ok-index.index slots free
          c.in_ok-index.ensures.empty count;
      loading_counted = rw slots refl;
      all_counted = rw (slots, count, rings) refl;
      within = omega (arith, count);
      bounded = omega (arith, ap (λ (r : Rings). r.capacity) rings);
    }
