-- Setting the capacity: the hot target and the ghost limit keep their proportion, rounded down.
use Rattle.std.proofs.Common.{◌≡◌, [], ◌∷◌, refl, lit<, lit≤}
use Rattle.quick_cache_model.specs.CacheState.{empty_state}
use Rattle.quick_cache_model.specs.Hooks.{BeforeEvict, EvictCold}
use Rattle.quick_cache_model.specs.Eviction.{EvictsToCapacity, AdvancesCold, EvictsVictim}
use Rattle.quick_cache_model.specs.Sizes.{hot_target_of, ghost_limit_of, default_hot_share, default_ghost_share}
use Rattle.quick_cache_model.specs.Capacity.{SetsCapacity}
use Rattle.quick_cache_laws.proofs.Examples.Caches.{unit_rules, hot_item, cold_item, untouched}

-- a cache for 100 items of weight 1
pub the_sizes_of_a_hundred
    : (hot_target_of 100 default_hot_share ≡ 97) × (ghost_limit_of 100 default_ghost_share ≡ 50)
the_sizes_of_a_hundred = (refl, refl)

-- its capacity is halved
pub half_the_capacity_halves_target_and_limit
    : SetsCapacity unit_rules 50 (empty_state 100 97 50) [] (empty_state 50 48 25)
half_the_capacity_halves_target_and_limit = SetsCapacity.sets _ []
    (EvictsToCapacity.has_room _ (lit≤ tt))

-- and set to four times as much: what was rounded away does not come back
pub a_greater_capacity_scales_the_rounded_target
    : SetsCapacity unit_rules 200 (empty_state 50 48 25) [] (empty_state 200 192 100)
a_greater_capacity_scales_the_rounded_target =
    SetsCapacity.sets _ [] (EvictsToCapacity.has_room _ (lit≤ tt))

-- at capacity 0 there is no target and no ghost
pub capacity_zero_has_no_target_and_no_ghosts
    : SetsCapacity unit_rules 0 (empty_state 200 192 100) [] (empty_state 0 0 0)
capacity_zero_has_no_target_and_no_ghosts = SetsCapacity.sets _ []
    (EvictsToCapacity.has_room _ (lit≤ tt))

-- from there the target is the default share of the new capacity, and the ghosts do not come back
pub from_capacity_zero_the_target_is_the_default
    : SetsCapacity unit_rules 100 (empty_state 0 0 0) [] (empty_state 100 97 0)
from_capacity_zero_the_target_is_the_default =
    SetsCapacity.sets _ [] (EvictsToCapacity.has_room _ (lit≤ tt))

-- a capacity of 1 has the target 1, since a target is 0 at capacity 0 alone
pub capacity_one_has_the_target_one
    : SetsCapacity unit_rules 1 (empty_state 100 97 50) [] (empty_state 1 1 0)
capacity_one_has_the_target_one = SetsCapacity.sets _ [] (EvictsToCapacity.has_room _ (lit≤ tt))

-- a smaller capacity evicts down to it: the ghost of what went is cut off with the others, down to
-- the new limit
pub a_smaller_capacity_evicts_down_to_it
    : SetsCapacity unit_rules 2
    (record (empty_state 4 2 2) {
      hot = hot_item 1 1 1 0 ∷ hot_item 2 1 1 1 ∷ [];
      cold = cold_item 3 1 1 0 ∷ [];
      ghosts = 8 ∷ 9 ∷ [];
    })
    (BeforeEvict 3 1 1 ∷ EvictCold 3 1 ∷ [])
    (record (empty_state 2 1 1) { hot = hot_item 1 1 1 0 ∷ hot_item 2 1 1 1 ∷ []; ghosts = 3 ∷ [] })
a_smaller_capacity_evicts_down_to_it =
    SetsCapacity.sets _ _
    (EvictsToCapacity.goes_on _ _ _ (BeforeEvict 3 1 1 ∷ EvictCold 3 1 ∷ []) [] (lit< tt)
    (AdvancesCold.evicts _ [] (cold_item 3 1 1 0) [] _ _ (untouched (cold_item 3 1 1 0 ∷ []))
    refl tt refl refl
    (EvictsVictim.leaves 1 (lit< tt)))
    (EvictsToCapacity.has_room _ (lit≤ tt)))
