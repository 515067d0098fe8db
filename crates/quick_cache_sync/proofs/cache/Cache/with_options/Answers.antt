use Rattle.std.proofs.Common.{subst, arith}
use Rattle.quick_cache_model.specs.Sizes.{IsShardCount}
use Rattle.quick_cache_sync.specs.Shards.{IsDivision}
use Rattle.quick_cache_sync.proofs.cache.Cache.with_options.Goals as goal

-- as many were made as the sizes tell
pub returns-clause-shards : goal.returns-clause-shards
returns-clause-shards g c =
    subst (λ n. IsShardCount c.args.options.shards c.args.options.estimated_items_capacity n)
    (omega (
      arith,
      c.loop.invariant.len,
      c.loop.auto.counter-end,
      c.loop-test.false,
    ))
    c.shard_sizes-sizes.ensures.shards

-- so there is a shard, and their number is a power of two
pub invariant_of-result : goal.invariant_of-result
invariant_of-result g c =
    subst IsDivision
    (omega (
      arith,
      c.loop.invariant.len,
      c.loop.auto.counter-end,
      c.loop-test.false,
    ))
    (record {
      some = c.shard_sizes-sizes.ensures.some;
      power = c.shard_sizes-sizes.ensures.shards.power;
    })
