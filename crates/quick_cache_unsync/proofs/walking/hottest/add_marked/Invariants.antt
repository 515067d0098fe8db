use Rattle.std.proofs.Common.{◌≡◌, ◌≤◌, ◌++◌, vec_len, take}
use Rattle.quick_cache_unsync.specs.Hottest.{pairs_shown, with_mark}
use Rattle.quick_cache_unsync.proofs.walking.hottest.add_marked.Given as goal

-- what is still to be added makes the list whole
abbrev pub invariant-loop-key : goal.invariant-loop-key
invariant-loop-key g l = record {
  within : vec_len l.list ≤ l.count;
  adds : take l.count (pairs_shown l.list.items ++ with_mark l.mark l.key-iterator)
      ≡ take l.count (pairs_shown l.fn.list.items ++ with_mark l.mark l.fn.ring);
}
