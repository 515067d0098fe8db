-- What is told of an item.
use Rattle.std.proofs.Common.{◌≡◌, ℕ, Bool, Some, sym, subst, arith}
use Rattle.quick_cache_model.specs.CacheState.{CacheState}
use Rattle.quick_cache_model.specs.Lookups.{Sees}
use Rattle.quick_cache_policy.specs.Stats.{ShowsReads}

module _ {K V : Type 0} (may_count : ℕ → Type 0) (stands_for : K → Bool) (state : CacheState K V)
    (shown : ℕ) where
  -- where readers count nothing, the reads are shown that the cache counted
  pub ShowsReads-exact : ((n : ℕ) → may_count n → n ≡ 0)
      → ShowsReads may_count stands_for state shown
      → Sees stands_for state (λ item. item.reads) (Some shown)
  ShowsReads-exact none shows =
      let same : shown ≡ shows.item.reads =
      omega (arith, shows.shows.2, none shows.shows.0 shows.shows.1, shows.within) in
      subst (λ (n : ℕ). Sees stands_for state (λ item. item.reads) (Some n)) (sym same)
      (Sees.is_there shows.there.place shows.there.before shows.item shows.there.after
      shows.there.at)
