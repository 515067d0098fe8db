use Rattle.std.proofs.Common.{◌≡◌, ◌<◌, ℕ, vec_len, slice_index, slice_index_or, Ok, None}
use Rattle.quick_cache_sync.specs.Many.{IsGot, KeepsOthers}
use Rattle.quick_cache_sync.proofs.calls.many.get_those_in.Given as goal

-- the queries up to here were looked up
abbrev pub invariant-loop-index : goal.invariant-loop-index
invariant-loop-index g l = record {
  as_many : vec_len l.values ≡ vec_len l.fn.values;
  others : KeepsOthers l.places l.place l.fn.values.items l.values.items;
  gets : (index : ℕ) (query : g.row.Q.Denot) → index < l.index
      → query ≡ slice_index_or l.queries index query
      → slice_index l.places index ≡ l.place
      → IsGot g.L.Lifecycle g.K.PartialEq.eq g.V.Clone.is_clone g.Q.Equivalent.equivalent query
      l.shard (Ok (slice_index_or l.values.items index None));
}
