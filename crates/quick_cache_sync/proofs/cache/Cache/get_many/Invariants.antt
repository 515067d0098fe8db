use Rattle.std.proofs.Common.{◌≡◌, ◌<◌, ◌≤◌, ℕ, length, slice_index_or, vec_len, vec_capacity}
use Rattle.quick_cache_sync.specs.Many.{place_of}
use Rattle.quick_cache_sync.proofs.ManyLemmas.{Shows}
use Rattle.quick_cache_sync.proofs.cache.Cache.get_many.Given as goal

-- there is room for the rest
abbrev pub invariant-loop : goal.invariant-loop
invariant-loop g l = record {
  some : vec_len l.values ≡ l.counter;
  room : length l.queries ≤ vec_capacity l.values;
}

-- the shards up to here were looked at
abbrev pub invariant-loop-place : goal.invariant-loop-place
invariant-loop-place g l =
    let place = place_of g.B.BuildHasher g.B.Hasher.Hasher l.self g.Q.Hash.hash_input in
    record {
      values : vec_len l.values ≡ length l.queries;
      of_each : (index : ℕ) (query : g.row.Q.Denot) → index < length l.queries
          → query ≡ slice_index_or l.queries index query → place query < l.place
          → Shows g.row.We.Denot g.row.B.Denot g.L.Lifecycle g.K.PartialEq.eq g.V.Clone.is_clone
          g.Q.Equivalent.equivalent l.queries place l.values.items query;
    }
