-- Laws of setting the capacity: the sizes stay as options make them, and the present capacity
-- changes none of them.
use Rattle.std.proofs.Common.{◌≡◌, ℕ, ◌+◌, ◌-◌, ◌*◌, ◌/◌, ◌^◌, ◌<◌, ◌≤◌, ◌==◌, min, Bool, true, false, if◌then◌else◌, List, [], length}
use Rattle.std.proofs.Common.{drop, refl, ap, ap₂, ◌∙◌, arith, mul-div_cancel}
use Rattle.std.proofs.Math.Nat.{mul-div_cancel_left}
use Rattle.std.proofs.lemmas.Bool.{eqb-true, eqb-false}
use Rattle.quick_cache_model.specs.CacheState.{CacheState, total_weight}
use Rattle.quick_cache_model.specs.Hooks.{Rules, HookCall}
use Rattle.quick_cache_model.specs.Sizes.{default_hot_share, clamped_target, hot_target_of, rescaled_target, rescaled_limit, IsSized}
use Rattle.quick_cache_model.specs.Eviction.{newest, EvictsToCapacity}
use Rattle.quick_cache_model.specs.Capacity.{resized, SetsCapacity}
use Rattle.quick_cache_model.proofs.EvictionKeeps.{EvictsToCapacity-beside}

-- the target at the present capacity is the target, if it was within its bounds
pub rescaled_target-same : (capacity target : ℕ) → target ≤ capacity → min capacity 1 ≤ target
    → rescaled_target capacity capacity target ≡ target
rescaled_target-same capacity target within above = go (capacity == 0) refl
  where
    go : (b : Bool) → (capacity == 0) ≡ b → (if b then hot_target_of capacity default_hot_share else
        clamped_target capacity (capacity * target / capacity)) ≡ target
    go true is = let none = eqb-true capacity 0 is in omega (arith, none)
    go false is =
        let some = eqb-false capacity 0 is in
        omega (arith, mul-div_cancel_left target {n = capacity} (omega arith))

-- the limit at the present capacity is the limit, if a count holds it
pub rescaled_limit-same : (capacity limit : ℕ) → limit < 2 ^ 64
    → rescaled_limit capacity capacity limit ≡ limit
rescaled_limit-same capacity limit counts = go (capacity == 0) refl
  where
    go : (b : Bool) → (capacity == 0) ≡ b → (if b then limit else min (limit * capacity / capacity)
        (2 ^ 64 - 1)) ≡ limit
    go true is = refl
    go false is =
        let some = eqb-false capacity 0 is in
        omega (arith, mul-div_cancel limit {n = capacity} (omega arith))

module _ {K V : Type 0} (rules : Rules K V) where
  -- the present capacity changes no size
  pub SetsCapacity-sizes : (old new : CacheState K V) (calls : List (HookCall K V))
      → SetsCapacity rules old.capacity old calls new → IsSized old
      → (new.capacity ≡ old.capacity) × (new.hot_target ≡ old.hot_target)
      × (new.ghost_limit ≡ old.ghost_limit)
  SetsCapacity-sizes old _ calls (SetsCapacity.sets mid _ evicts) sized =
      let same = EvictsToCapacity-beside rules 0 (resized rules old.capacity old)
      mid calls evicts in (
        same.capacity,
        same.hot_target ∙ rescaled_target-same old.capacity old.hot_target sized.target_within
            sized.target_above,
        same.ghost_limit ∙ rescaled_limit-same old.capacity old.ghost_limit sized.limit_counts,
      )

  -- where there is room, eviction changes nothing and calls no hook
  pub EvictsToCapacity-room : (need : ℕ) (old new : CacheState K V) (calls : List (HookCall K V))
      → EvictsToCapacity rules need old calls new
      → total_weight old + need ≤ old.capacity → (new ≡ old) × (calls ≡ [])
  EvictsToCapacity-room need _ _ _ (EvictsToCapacity.has_room old fits) room = (refl, refl)
  EvictsToCapacity-room need _ _ _ (EvictsToCapacity.gives_up old new calls above advances) room =
      absurd (omega arith)
  EvictsToCapacity-room need _ _ _ (EvictsToCapacity.goes_on old mid new first rest above advances
      goes) room = absurd (omega arith)

  -- where there is room for the items, and the ghosts are within their limit, the present capacity
  -- changes nothing
  pub SetsCapacity-same : (old new : CacheState K V) (calls : List (HookCall K V))
      → SetsCapacity rules old.capacity old calls new → IsSized old
      → total_weight old ≤ old.capacity → length old.ghosts ≤ old.ghost_limit → (new ≡ old)
      × (calls ≡ [])
  SetsCapacity-same old _ calls (SetsCapacity.sets mid _ evicts) sized room within =
      let was = EvictsToCapacity-room 0 (resized rules old.capacity old) mid calls evicts
      (omega (arith, room)) in
      let same : resized rules old.capacity old ≡ old =
      ap₂ (λ target limit. record old { hot_target = target; ghost_limit = limit })
      (rescaled_target-same old.capacity old.hot_target sized.target_within sized.target_above)
      (rescaled_limit-same old.capacity old.ghost_limit sized.limit_counts)
      in
      let none : length old.ghosts - old.ghost_limit ≡ 0 = omega (arith, within) in (
        ap (λ (s : CacheState K V). record s { ghosts = newest s.ghost_limit s.ghosts })
            (was.0 ∙ same)
            ∙ ap (λ n. record old { ghosts = drop n old.ghosts }) none,
        was.1,
      )
