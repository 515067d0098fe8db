use Rattle.std.proofs.Common.{◌≡◌, rules}
use Rattle.quick_cache_model.specs.Sizes.{shard_part}
use Rattle.quick_cache_sync.specs.InTurn.{SetInTurn}
use Rattle.quick_cache_sync.proofs.cache.Cache.set_capacity_with_lifecycle.Goals as goal

-- one more shard was set
pub loop-index-preserved : goal.loop-index-preserved
loop-index-preserved g c = SetInTurn.one_more c.loop-index.index _ _ _ c.loop-index.invariant
    (record {
      shard = _;
      kept = c.set_capacity.ensures.kept;
      holds = (c.set_capacity.new.self, c.set_capacity.ensures.sets);
    })

-- none was set yet
pub loop-index-init : goal.loop-index-init
loop-index-init g c = SetInTurn.none _

-- each shard got its part
pub returns : goal.returns
returns g c =
    let all : c.loop-index.index ≡ c.args.self.now.shards = search rules in
    let part : c.shard_weight-part.result
    ≡ shard_part c.args.capacity c.args.self.now.shards = search rules in
    record { sets = rw (all, part) at c.loop-index.invariant }
