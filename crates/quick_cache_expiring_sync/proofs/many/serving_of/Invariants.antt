use Rattle.std.proofs.Common.{◌≡◌, ◌+◌, ◌≤◌, ◌++◌, map, vec_len, vec_capacity}
use Rattle.std.specs.Vec.Iter.{into_iter_items, into_iter_len}
use Rattle.quick_cache_expiring_sync.specs.Looks.{serving}
use Rattle.quick_cache_expiring_sync.proofs.many.serving_of.Given as goal

-- what is still to come makes the list whole, and there is room for it
abbrev pub invariant-loop-found : goal.invariant-loop-found
invariant-loop-found g l = record {
  whole : l.values.items ++ map (serving l.now) (into_iter_items l.rest)
      ≡ map (serving l.now) l.fn.found.items;
  room : vec_len l.values + into_iter_len l.rest ≤ vec_capacity l.values;
}

abbrev pub decreases-loop-found : goal.decreases-loop-found
decreases-loop-found g l = into_iter_len l.rest
