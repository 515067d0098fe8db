use Rattle.std.proofs.Common.{All}
use Rattle.quick_cache_runs.specs.Asked.{IfAsks}
use Rattle.test_threads.proofs.traced.history.taken_apart.Given as goal

-- no call asks a predicate
abbrev pub invariant-loop-entry : goal.invariant-loop-entry
invariant-loop-entry g l = All (IfAsks (λ asked. ⊥)) l.calls.items
