use Rattle.std.proofs.Common.{All}
use Rattle.quick_cache_runs.specs.Asked.{IfAsks}
use Rattle.test_unsync.proofs.large.threes.Given as goal

-- no call asks a predicate
abbrev pub invariant-loop-number : goal.invariant-loop-number
invariant-loop-number g l = All (IfAsks (λ asked. ⊥)) l.calls.items
