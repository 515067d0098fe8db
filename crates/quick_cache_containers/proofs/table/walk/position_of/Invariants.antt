use Rattle.std.proofs.Common.{◌≡◌, ◌==◌, length, count_by}
use Rattle.quick_cache_containers.specs.TableGroups.{holds_pair, IsWalk, tokens_left}
use Rattle.quick_cache_containers.proofs.table.walk.position_of.Given as goal

-- what is left has the token as often as the places have the pair
abbrev pub invariant-loop-position : goal.invariant-loop-position
invariant-loop-position l = record {
  still : IsWalk l.walk;
  places : l.walk.places ≡ l.fn.walk.places;
  hash : l.walk.hash ≡ l.fn.walk.hash;
  left : count_by (λ t. t == l.token) (tokens_left l.walk) ≡ count_by (holds_pair l.fn.walk.hash l.token) l.fn.walk.places;
}

abbrev pub decreases-loop-position : goal.decreases-loop-position
decreases-loop-position l = length (tokens_left l.walk)
