use Rattle.std.proofs.Common.{◌≡◌, ◌+◌, ◌-◌, ◌≤◌}
use Rattle.quick_cache_policy.specs.Predicates.{Answers}
use Rattle.quick_cache_shard.specs.Shard.{residents}
use Rattle.quick_cache_shard.specs.TakesWanted.{PassesTo}
use Rattle.quick_cache_shard.specs.WalksFrom.{number_or_zero}
use Rattle.quick_cache_shard.proofs.shard.CacheShard.first_wanted.Given as goal

-- none of the items that were shown was wanted
abbrev pub invariant-loop-token : goal.invariant-loop-token
invariant-loop-token g l = record {
  places : l.walk.places ≡ l.self.places;
  residents : l.walk.residents ≡ residents l.self.state;
  behind : number_or_zero l.fn.after ≤ l.walk.after;
  passes : PassesTo (Answers g.F.Fn l.wanted) (number_or_zero l.fn.after) l.self
      (l.walk.after + 1);
}

abbrev pub decreases-loop-token : goal.decreases-loop-token
decreases-loop-token g l = 4294967296 - l.walk.after
