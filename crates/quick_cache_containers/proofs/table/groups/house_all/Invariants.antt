-- The places that were visited have a pair only where they have a tag.
use Rattle.std.proofs.Common.{◌≡◌}
use Rattle.quick_cache_containers.specs.TableGroups.{IsHoused, IsBareBelow, HasSamePairs}
use Rattle.quick_cache_containers.proofs.table.groups.house_all.Given as goal

abbrev pub invariant-loop-position : goal.invariant-loop-position
invariant-loop-position g l = record {
  housed : IsHoused l.tags l.places.items l.reaches l.mask;
  bare : IsBareBelow l.tags l.places.items l.position;
  allocated : l.places.allocated ≡ l.fn.places.allocated;
  pairs : HasSamePairs l.fn.places.items l.places.items;
}
