use Rattle.std.proofs.Common.{ℕ, ◌<◌}
use Rattle.std.specs.Int.{IsPowerOfTwo}
use Rattle.quick_cache_model.specs.Sizes.{shard_part, IsWithinAsked}
use Rattle.quick_cache_options.proofs.sizes.shard_count.Given as goal

-- each greater count that was asked for leaves a shard too few items
abbrev pub invariant-loop-shards : goal.invariant-loop-shards
invariant-loop-shards l = record {
  power : IsPowerOfTwo l.shards;
  within_asked : IsWithinAsked l.asked l.shards;
  greatest : (more : ℕ) → IsPowerOfTwo more → l.shards < more → IsWithinAsked l.asked more
      → shard_part l.items more < 32;
}

abbrev pub decreases-loop-shards : goal.decreases-loop-shards
decreases-loop-shards l = l.shards
