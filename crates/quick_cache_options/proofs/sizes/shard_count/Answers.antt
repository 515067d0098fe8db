use Rattle.std.proofs.Common.{ℕ, ◌<◌, ◌≤◌, arith, inl, inr, subst}
use Rattle.std.proofs.Math.Nat.{eq-or-lt_of_le}
use Rattle.quick_cache_model.specs.Sizes.{shard_part}
use Rattle.quick_cache_model.proofs.PowersOfTwo.{IsPowerOfTwo-pos, half-IsPowerOfTwo, half-double, IsPowerOfTwo-double}
use Rattle.quick_cache_options.proofs.sizes.shard_count.Goals as goal

-- a greater power of two is at least the double, so it is not within the number asked for
pub loop-shards-init : goal.loop-shards-init
loop-shards-init c =
    let first = c.next_power_of_two-shards.ensures in
    record {
      power = first.power;
      within_asked = first.upper_bound;
      greatest = λ more is_power above within.
          let positive = IsPowerOfTwo-pos _ first.power in
          let doubled = IsPowerOfTwo-double _ more first.power is_power above in
          absurd (omega (arith, positive, doubled, first.lower_bound, within));
    }

-- no power of two stands between half of the count and the count, at which a shard has too few
-- items
pub loop-shards-preserved : goal.loop-shards-preserved
loop-shards-preserved c =
    let kept = c.loop-shards.invariant in
    let half = half-IsPowerOfTwo _ kept.power c.loop-shards-test.true in
    let too_few : ℕ → Type 0 = λ count. shard_part c.args.items count < 32 in
    let here : too_few c.loop-shards.shards =
    subst (λ n. n < 32) c.shard_items.ensures c.if-shard_items-lt-LEAST_SHARD_ITEMS.true in
    record {
      power = half;
      within_asked = omega arith;
      greatest = λ more is_power above within.
          let doubled = IsPowerOfTwo-double _ more half is_power above in
          let even = half-double _ kept.power c.loop-shards-test.true in
          let reached : c.loop-shards.shards ≤ more = omega (arith, doubled, even) in
          elim (eq-or-lt_of_le reached) [
            | inl same ↦ subst too_few same here
            | inr greater ↦ kept.greatest more is_power greater within
          ];
    }
