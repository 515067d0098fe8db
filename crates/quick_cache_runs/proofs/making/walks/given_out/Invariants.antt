use Rattle.std.proofs.Common.{◌≡◌, ◌+◌, ◌≤◌, length, vec_len, vec_capacity}
use Rattle.quick_cache_unsync.specs.CacheDrain.{held, drain_rest}
use Rattle.quick_cache_runs.proofs.making.walks.given_out.Given as goal

-- the pairs that the loop took are in the list, and there is room for those that are left
abbrev pub invariant-loop-pair : goal.invariant-loop-pair
invariant-loop-pair g l = record {
  items : l.pairs.items ≡ l.yielded;
  room : vec_len l.pairs + length (drain_rest held l.pair-iterator) ≤ vec_capacity l.pairs;
}
