use Rattle.std.proofs.Common.{◌≡◌, Some}
use Rattle.quick_cache_loading.specs.Turns.{IsLater}
use Rattle.quick_cache_guard.proofs.guard.PlaceholderGuard.entry.Given as goal

-- the callback was not called yet, and the turns of all waits are counted
abbrev pub invariant-loop : goal.invariant-loop
invariant-loop g l =
    (goal.iterator-loop g).can_next l.iterator' × (goal.iterator-loop g).is_finite l.iterator'
    × (l.held ≡ Some l.fn.callback) × IsLater l.fn.turns l.turns
