-- Setting the capacity.
use Rattle.std.specs.Prelude.{ℕ, List}
use Rattle.quick_cache_model.specs.CacheState.{CacheState}
use Rattle.quick_cache_model.specs.Hooks.{Rules, HookCall}
use Rattle.quick_cache_model.specs.Eviction.{EvictsToCapacity, newest}
use Rattle.quick_cache_model.specs.Sizes.{rescaled_target, rescaled_limit}

module _ {K V : Type 0} (rules : Rules K V) (capacity : ℕ) where
  -- the state with the new capacity, its target and its ghost limit in the old proportion
  abbrev pub resized : CacheState K V → CacheState K V
  resized state = record state {
    capacity = capacity;
    hot_target = rescaled_target state.capacity capacity state.hot_target;
    ghost_limit = rescaled_limit state.capacity capacity state.ghost_limit;
  }

  -- new numbers, then eviction down to the capacity, and then the oldest ghosts go
  pub data SetsCapacity (old : CacheState K V) : List (HookCall K V) → CacheState K V → Type 0 where
    sets : (mid : CacheState K V) (calls : List (HookCall K V))
        → EvictsToCapacity rules 0 (resized old) calls mid
        → SetsCapacity old calls (record mid { ghosts = newest mid.ghost_limit mid.ghosts })
