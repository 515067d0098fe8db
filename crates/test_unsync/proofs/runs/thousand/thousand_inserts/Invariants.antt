use Rattle.std.proofs.Common.{All}
use Rattle.quick_cache_runs.specs.Asked.{IfAsks}
use Rattle.test_unsync.proofs.runs.thousand.thousand_inserts.Given as goal

-- no call asks a predicate
abbrev pub invariant-loop-key : goal.invariant-loop-key
invariant-loop-key g l = All (IfAsks (λ asked. ⊥)) l.calls.items
