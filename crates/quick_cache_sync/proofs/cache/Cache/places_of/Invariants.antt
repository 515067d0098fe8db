use Rattle.std.proofs.Common.{◌≡◌, ◌<◌, ◌≤◌, ℕ, length, slice_index, slice_index_or, vec_len, vec_capacity}
use Rattle.quick_cache_sync.specs.Many.{place_of}
use Rattle.quick_cache_sync.proofs.cache.Cache.places_of.Given as goal

-- the places of the queries up to here are known, and there is room for the rest
abbrev pub invariant-loop-query : goal.invariant-loop-query
invariant-loop-query g l =
    let place = place_of g.B.BuildHasher g.B.Hasher.Hasher l.self g.Q.Hash.hash_input in
    record {
      some : vec_len l.places ≡ l.query-index;
      room : length l.queries ≤ vec_capacity l.places;
      are : (index : ℕ) (query : g.row.Q.Denot) → index < l.query-index
          → query ≡ slice_index_or l.queries index query
          → (slice_index l.places.items index ≡ place query) × (place query < l.self.shards);
    }
