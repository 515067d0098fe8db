use Rattle.std.proofs.Common.{ap, refl, arith}
use Rattle.quick_cache_store.specs.Pool.{Pool}
use Rattle.quick_cache_store.specs.Rings.{Rings}
use Rattle.quick_cache_store.proofs.lists.SoundLemmas.{IsStanding-empty, IsKeyed-empty}
use Rattle.quick_cache_store.proofs.lists.lists.Lists.clear.Goals as goal

-- no slot is left, and no token
pub invariant_of-self : goal.invariant_of-self
invariant_of-self g c =
    let slab = c.clear.new.self in
    let slots = ap (λ (s : Pool _). s.slots) c.clear.ensures in
    let free = ap (λ (s : Pool _). s.free) c.clear.ensures in
    let count = c.clear-2.ensures.count in
    let rings = c.clear-3.ensures in
    record {
      standing = IsStanding-empty slab c.clear-3.new.self slots
          (ap (λ (r : Rings). r.hot) rings) (ap (λ (r : Rings). r.cold) rings)
          (ap (λ (r : Rings). r.ghosts) rings);
      keyed = IsKeyed-empty slab c.clear-2.new.self slots free c.clear-2.ensures.empty count;
      loading_counted = rw slots refl;
      all_counted = rw (slots, count, rings) refl;
      within = omega (arith, count);
      bounded = omega (
        arith,
        c.self.invariant.bounded,
        c.self.invariant.keyed.counted,
        ap (λ (r : Rings). r.capacity) rings,
        ap (λ (s : Pool _). s.room) c.clear.ensures,
        c.clear-2.ensures.room,
      );
    }
