-- What is told of one item.
use Rattle.std.specs.Prelude.{ℕ, ◌<◌, ◌^◌, Bool}
use Rattle.quick_cache_model.specs.CacheState.{CacheState, Item}
use Rattle.quick_cache_model.specs.Touches.{ShowsCount}
use Rattle.quick_cache_policy.specs.Finding.{IsThere}

-- here is an item whose key the query stands for, and its reads are shown with what readers may
-- have counted since
pub record ShowsReads {K V : Type 0} (may_count : ℕ → Type 0) (stands_for : K → Bool)
    (state : CacheState K V) (shown : ℕ) : Type 0 where
  pub item : Item K V
  pub there : IsThere stands_for state item
  pub within : item.reads < 2 ^ 64
  pub shows : ShowsCount may_count item.reads shown
