use Rattle.std.proofs.Common.{rules, sym}
use Rattle.std.proofs.lemmas.List.Elements.{All-nil, All-same, All-rest, All-head, All-push}
use Rattle.quick_cache_runs.specs.Asked.{IfAsks}
use Rattle.test_unsync.proofs.runs.parted.Goals as goal

-- no call was taken
pub loop-call-init : goal.loop-call-init
loop-call-init g c = search (rules, All-nil, All-same)

-- one call more was
pub loop-call-preserved : goal.loop-call-preserved
loop-call-preserved g c = record {
  taken = All-same (IfAsks (goal.F-IsAlwaysCallable g)) _ _ c.in_ok-push.ensures.items
      (All-push (IfAsks (goal.F-IsAlwaysCallable g)) _ _ c.loop-call.invariant.taken
      (All-head (λ row. IfAsks (goal.F-IsAlwaysCallable g) row.0) (c.in-Some.call, c.in-Some.reply)
      _ (All-same (λ row. IfAsks (goal.F-IsAlwaysCallable g) row.0) _ _
      (sym c.in-Some.ensures.steps.0) c.loop-call.invariant.left)));
  left = All-rest (λ row. IfAsks (goal.F-IsAlwaysCallable g) row.0) _ _ _
      c.in-Some.ensures.steps.0 c.loop-call.invariant.left;
}
