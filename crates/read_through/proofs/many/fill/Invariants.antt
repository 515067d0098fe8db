use Rattle.std.proofs.Common.{◌≡◌, ◌+◌, ◌≤◌, ◌++◌, vec_len, vec_capacity}
use Rattle.std.specs.Vec.Iter.{into_iter_items, into_iter_len}
use Rattle.read_through.specs.Many.{filled}
use Rattle.read_through.proofs.many.fill.Given as goal

-- what is still to be filled makes the list whole, and there is room for it
abbrev pub invariant-loop-found : goal.invariant-loop-found
invariant-loop-found g l = record {
  whole : l.values.items ++ filled (into_iter_items l.rest) (into_iter_items l.loaded)
      ≡ filled l.fn.found.items l.fn.loaded.items;
  room : vec_len l.values + into_iter_len l.rest ≤ vec_capacity l.values;
}

abbrev pub decreases-loop-found : goal.decreases-loop-found
decreases-loop-found g l = into_iter_len l.rest
