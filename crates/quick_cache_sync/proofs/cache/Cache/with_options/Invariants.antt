use Rattle.std.proofs.Common.{◌≡◌, ◌≤◌, vec_len, vec_capacity}
use Rattle.quick_cache_sync.proofs.cache.Cache.with_options.Given as goal

-- so many shards are made, and there is room for the rest
abbrev pub invariant-loop : goal.invariant-loop
invariant-loop g l = record {
  len : vec_len l.shards ≡ l.counter;
  room : l.sizes.shards ≤ vec_capacity l.shards;
}
