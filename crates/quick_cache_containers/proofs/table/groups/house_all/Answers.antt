-- One place more was visited, and the pairs are still those that there were.
use Rattle.std.proofs.Common.{◌∙◌}
use Rattle.quick_cache_containers.proofs.HousedPairs.{HasSamePairs-then}
use Rattle.quick_cache_containers.proofs.table.groups.house_all.Goals as goal

pub loop-position-preserved : goal.loop-position-preserved
loop-position-preserved g c = record {
  housed = c.house.ensures.housed;
  bare = c.house.ensures.bare;
  allocated = c.house.ensures.allocated ∙ c.loop-position.invariant.allocated;
  pairs =
      HasSamePairs-then c.args.places.now.items c.loop-position.places.items c.house.new.places.items
      c.loop-position.invariant.pairs c.house.ensures.pairs;
}
