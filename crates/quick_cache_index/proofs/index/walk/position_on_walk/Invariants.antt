use Rattle.std.proofs.Common.{◌≡◌, ◌==◌, length, count_by}
use Rattle.quick_cache_index.specs.IndexGroups.{IsWalk, candidates_left}
use Rattle.quick_cache_index.proofs.index.walk.position_on_walk.Given as goal

-- what is left has the token as often as all of it
abbrev pub invariant-loop-position : goal.invariant-loop-position
invariant-loop-position l = record {
  still : IsWalk l.walk;
  tokens : l.walk.tokens ≡ l.fn.walk.tokens;
  left : count_by (λ t. t == l.token) (candidates_left l.walk)
      ≡ count_by (λ t. t == l.token) (candidates_left l.fn.walk);
}

abbrev pub decreases-loop-position : goal.decreases-loop-position
decreases-loop-position l = length (candidates_left l.walk)
