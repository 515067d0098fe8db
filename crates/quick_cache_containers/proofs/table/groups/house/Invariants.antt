-- Where there is a tag, its pair is housed, and the pairs are those that there were.
use Rattle.std.proofs.Common.{◌≡◌, eqb, count_by}
use Rattle.quick_cache_containers.specs.TableGroups.{IsHoused, IsBareBelow, HasSamePairs}
use Rattle.quick_cache_containers.proofs.table.groups.house.Given as goal

abbrev pub invariant-loop-tags : goal.invariant-loop-tags
invariant-loop-tags g l = record {
  housed : IsHoused l.tags l.places.items l.reaches l.mask;
  bare : IsBareBelow l.tags l.places.items l.position;
  allocated : l.places.allocated ≡ l.fn.places.allocated;
  pairs : HasSamePairs l.fn.places.items l.places.items;
}

abbrev pub decreases-loop-tags : goal.decreases-loop-tags
decreases-loop-tags g l = count_by (λ t. eqb t 0) l.tags
