-- Setting the capacity, with the hooks that it calls.
use Rattle.std.specs.Prelude.{◌≡◌, ℕ}
use Rattle.quick_cache_model.specs.Capacity.{SetsCapacity}
use Rattle.quick_cache_model.specs.CacheState.{CacheState}
use Rattle.quick_cache_model.specs.Hooks.{Rules, Hooks, Calls}
use Rattle.quick_cache_model.specs.Sizes.{rescaled_target, rescaled_limit}
use Rattle.quick_cache_policy.specs.Advances.{Evicting}

-- The hooks led the request state from the first to the last; their calls are those of evictions,
-- and tell what became of the residents. Where pinning is steady, it is a step of its definition.
abbrev pub SetsCapacityTo : {K V S : Type 0} → (steady : Type 0) → Hooks K V S → Rules K V
    → (capacity : ℕ) → (old : CacheState K V) → S → (new : CacheState K V) → S → Type 0
SetsCapacityTo steady hooks rules capacity old first new last =
    Calls hooks (Evicting steady (SetsCapacity rules capacity) old new) first last

-- The capacity is the one that was asked for, and the hot target and the ghost limit changed in
-- proportion, whatever is pinned. The present capacity changes neither.
pub record Rescales {K V : Type 0} (to : ℕ) (old new : CacheState K V) : Type 0 where
  pub capacity : new.capacity ≡ to
  pub target : new.hot_target ≡ rescaled_target old.capacity to old.hot_target
  pub limit : new.ghost_limit ≡ rescaled_limit old.capacity to old.ghost_limit
  pub present : to ≡ old.capacity
      → (new.hot_target ≡ old.hot_target) × (new.ghost_limit ≡ old.ghost_limit)
