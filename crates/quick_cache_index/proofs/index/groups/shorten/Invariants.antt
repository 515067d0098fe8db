use Rattle.std.proofs.Common.{◌≤◌}
use Rattle.quick_cache_index.proofs.FreedPlaces.{AreWithin}
use Rattle.quick_cache_index.proofs.index.groups.shorten.Given as goal

-- what the home reached is no farther from it
abbrev pub invariant-loop-step : goal.invariant-loop-step
invariant-loop-step l = record {
  near : l.step ≤ l.mask;
  within : AreWithin l.distances l.reaches l.home l.step;
}

abbrev pub decreases-loop-step : goal.decreases-loop-step
decreases-loop-step l = l.step
