use Rattle.std.proofs.Common.{◌≡◌}
use Rattle.quick_cache_loading.specs.Turns.{IsLater}
use Rattle.quick_cache_loading.proofs.sharing.placeholder.Placeholder.wait_within.Given as goal

-- it keeps its place, and goes on counting
abbrev pub invariant-loop : goal.invariant-loop
invariant-loop g l =
    (goal.iterator-loop g).can_next l.iterator' × (goal.iterator-loop g).is_finite l.iterator'
    × (l.place ≡ l.fn.place) × IsLater l.fn.turns l.turns
