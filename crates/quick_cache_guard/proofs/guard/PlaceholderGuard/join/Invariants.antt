use Rattle.std.proofs.Common.{◌≡◌, None}
use Rattle.quick_cache_guard.proofs.guard.PlaceholderGuard.join.Given as goal

-- without a limit no turn is counted
abbrev pub invariant-loop : goal.invariant-loop
invariant-loop g l =
    (goal.iterator-loop g).can_next l.iterator' × (goal.iterator-loop g).is_finite l.iterator'
    × (l.fn.limit ≡ None → l.turns.limit ≡ None)
