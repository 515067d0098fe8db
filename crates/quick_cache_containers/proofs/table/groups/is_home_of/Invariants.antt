use Rattle.std.proofs.Common.{◌≡◌, ℕ, ◌+◌, ◌*◌, ◌<◌}
use Rattle.quick_cache_index.specs.Index.{home_of}
use Rattle.quick_cache_containers.specs.TableGroups.{hash_at, place_at}
use Rattle.quick_cache_containers.proofs.table.groups.is_home_of.Given as goal

-- none of the lanes so far has a pair of that home
abbrev pub invariant-loop-lane : goal.invariant-loop-lane
invariant-loop-lane l =
    (lane : ℕ) → lane < l.lane → 0 < (place_at l.places (16 * l.group + lane)).token
    → home_of l.mask (hash_at (place_at l.places (16 * l.group + lane))) ≡ l.home → ⊥
