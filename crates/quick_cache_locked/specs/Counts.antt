-- The numbers of a shard: those that it is made with, and those that it answers.
use Rattle.std.specs.Prelude.{◌≡◌, ℕ, ◌-◌, ◌^◌, min}
use Rattle.quick_cache_model.specs.CacheState.{CacheState, empty_state, item_count, total_weight}
use Rattle.quick_cache_model.specs.Sizes.{hot_target_of, ghost_limit_of}
use Rattle.quick_cache_model.specs.Touches.{ShowsCount}
use Rattle.quick_cache_options.specs.Options.{Settings}
use Rattle.quick_cache_locked.specs.Touches.{any_touches}
use Rattle.quick_cache_locked.specs.declared.count.Count.{Count}

-- the state of an empty shard for so many items of that weight, by these options
abbrev pub empty_of : {K V : Type 0} → Settings → (items weight : ℕ) → CacheState K V
empty_of options items weight =
    record (empty_state weight (hot_target_of weight options.hot_allocation)
    (ghost_limit_of items options.ghost_allocation)) { mark_cut = options.mark_cut }

-- what a shard answers of itself
abbrev pub Shows : {K V : Type 0} → Count → CacheState K V → ℕ → Type 0
Shows Count.Items state shown = shown ≡ item_count state
Shows Count.Weight state shown = shown ≡ min (total_weight state) (2 ^ 64 - 1)
Shows Count.Capacity state shown = shown ≡ state.capacity
Shows Count.Hits state shown = ShowsCount any_touches state.hits shown
Shows Count.Misses state shown = ShowsCount any_touches state.misses shown
