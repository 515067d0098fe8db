use Rattle.std.proofs.Common.{All}
use Rattle.std.specs.Vec.Iter.{into_iter_items}
use Rattle.quick_cache_runs.specs.Asked.{IfAsks}
use Rattle.test_unsync.proofs.runs.parted.Given as goal

-- what each call asks may be called, of those that were taken and of those that are left
abbrev pub invariant-loop-call : goal.invariant-loop-call
invariant-loop-call g l = record {
  taken : All (IfAsks (goal.F-IsAlwaysCallable g)) l.calls.items;
  left : All (λ row. IfAsks (goal.F-IsAlwaysCallable g) row.0) (into_iter_items l.call-iterator);
}
