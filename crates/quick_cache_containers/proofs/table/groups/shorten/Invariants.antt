use Rattle.std.proofs.Common.{◌≤◌}
use Rattle.quick_cache_containers.proofs.FreedPlaces.{AreWithin}
use Rattle.quick_cache_containers.proofs.table.groups.shorten.Given as goal

-- no pair of the home is farther from it
abbrev pub invariant-loop-step : goal.invariant-loop-step
invariant-loop-step l = record {
  near : l.step ≤ l.mask;
  within : AreWithin l.places l.reaches l.mask l.home l.step;
}

abbrev pub decreases-loop-step : goal.decreases-loop-step
decreases-loop-step l = l.step
