-- Drains that are taken to their end.
use Rattle.std.proofs.Common.{◌≡◌, ◌≤◌, List, ◌++◌, length, map, None, ap, subst, ◌∙◌, arith}
use Rattle.std.proofs.lemmas.List.{append-nil, length-map, length-append}
use Rattle.std.specs.Iterator.{Yields}
use Rattle.std.specs.List.Sorted.{IsPermutation}
use Rattle.quick_cache_model.specs.CacheState.{CacheState, item_count}
use Rattle.quick_cache_model.specs.Removal.{Drains, cleared, pair_of}
use Rattle.quick_cache_shard.specs.Shard.{Shard, residents}
use Rattle.quick_cache_unsync.specs.CacheDrain.{held, drain_rest, emptied, pairs_in, DrainSteps, DrainsInAll}
use Rattle.quick_cache_unsync.specs.declared.walking.drain.Drain.{Drain}

-- there are as many pairs as items
pub pairs-counted : {K V : Type 0} (state : CacheState K V)
    → length (map pair_of (residents state)) ≡ item_count state
pairs-counted state = omega (
  arith,
  length-map (residents state) pair_of ∙ length-append (state.hot ++ state.cold) state.still,
  length-append state.hot state.cold,
)

module _ {K V We B L A H : Type 0} (first : Drain K V We B L A H) (old : Shard K V We B L)
    (begins : (held first).now ≡ old) where
  pub rest-counted : length (drain_rest held first) ≡ item_count old.state
  rest-counted = ap (λ (x : Shard K V We B L). length (pairs_in x)) begins
      ∙ pairs-counted old.state

  -- all pairs were given, and what is left is dropped
  pub drained-out : DrainsInAll held first → (taken : List (K × V))
      (later last : Drain K V We B L A H) → Yields (DrainSteps held) first taken later → DrainSteps held later None last
      → (final : Shard K V We B L) → final ≡ emptied (held last).now
      → Drains old.state taken final.state
  drained-out gives taken later last yields ends final empty =
      let along = gives taken later yields in
      let all = subst (λ pairs. IsPermutation (drain_rest held first) pairs)
      ((λ i. taken ++ ends.0.0 i) ∙ append-nil taken) along.gives in (
        subst (λ (x : Shard K V We B L). IsPermutation (pairs_in x) taken) begins all,
        ap (λ (x : Shard K V We B L). x.state) empty ∙ ends.1.shard.cleared
            ∙ along.keeps.shard.cleared ∙ ap (λ (x : Shard K V We B L). cleared x.state) begins,
      )

  -- and what they took is room again
  pub drained-room : DrainsInAll held first → (taken : List (K × V))
      (later last : Drain K V We B L A H) → Yields (DrainSteps held) first taken later → DrainSteps held later None last
      → (final : Shard K V We B L) → final ≡ emptied (held last).now
      → old.room ≤ final.room
  drained-room gives taken later last yields ends final empty =
      let along = gives taken later yields in
      omega (
        arith,
        ap (λ (x : Shard K V We B L). x.room) begins,
        along.keeps.shard.room,
        ends.1.shard.room,
        ap (λ (x : Shard K V We B L). x.room) empty,
      )
