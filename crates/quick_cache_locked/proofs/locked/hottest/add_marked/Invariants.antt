use Rattle.std.proofs.Common.{◌≡◌, ◌≤◌, ◌++◌, length, vec_len, take}
use Rattle.quick_cache_locked.specs.Hottest.{pairs_read, with_mark}
use Rattle.quick_cache_locked.proofs.locked.hottest.add_marked.Given as goal

-- what is still to be added makes the list whole
abbrev pub invariant-loop-key : goal.invariant-loop-key
invariant-loop-key g l = record {
  within : vec_len l.list ≤ l.count;
  adds : take l.count (pairs_read l.list.items ++ with_mark l.queue l.mark l.ring)
      ≡ take l.count (pairs_read l.fn.list.items ++ with_mark l.queue l.mark l.fn.ring);
}

abbrev pub decreases-loop-key : goal.decreases-loop-key
decreases-loop-key g l = length l.ring
