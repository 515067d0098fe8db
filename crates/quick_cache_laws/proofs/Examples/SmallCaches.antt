-- Caches of capacity 0, 1 and 2.
use Rattle.std.proofs.Common.{[], ◌∷◌, refl, lit<, lit≤, None, true}
use Rattle.quick_cache_model.specs.CacheState.{empty_state}
use Rattle.quick_cache_model.specs.Hooks.{BeforeEvict, EvictHot, EvictCold}
use Rattle.quick_cache_model.specs.Eviction.{EvictsToCapacity, AdvancesHot, AdvancesCold, EvictsVictim}
use Rattle.quick_cache_model.specs.Admission.{ChecksAdmission}
use Rattle.quick_cache_model.specs.Writes.{Insert, Writes, WritesAdmitted, RejectsTooHeavy, TakesOutItem}
use Rattle.quick_cache_model.specs.Lookups.{LooksUp}
use Rattle.quick_cache_laws.proofs.Examples.Caches.{unit_rules, digit_rules, is, hot_item, cold_item, untouched}

-- an insert into a full cache of capacity 1: the item there is the victim of the first advance,
-- though it is marked
pub capacity_one_lets_a_marked_item_go
    : Writes unit_rules (is 2) 2 Insert (record (empty_state 1 1 0)
    { hot = hot_item 1 10 1 1 ∷ [] }) 20
    (BeforeEvict 1 10 10 ∷ EvictHot 1 10 ∷ []) None
    (record (empty_state 1 1 0) { cold = cold_item 2 20 1 0 ∷ [] })
capacity_one_lets_a_marked_item_go =
    Writes.admitted [] _ 20 None _ (ChecksAdmission.is_light (lit≤ tt))
    (WritesAdmitted.inserts_new _ _ refl
    (record {
      keys = record {
        items = record { hot = (refl, tt); cold = tt; still = tt };
        loading =
            tt;
      };
      ghosts = tt;
    })
    (EvictsToCapacity.goes_on _ _ _ (BeforeEvict 1 10 10 ∷ EvictHot 1 10 ∷ []) [] (lit< tt)
    (AdvancesCold.passes_all [] true _ _ tt tt
    (AdvancesHot.evicts _ [] (hot_item 1 10 1 1) [] _ _ (untouched (hot_item 1 10 1 1 ∷ [])) refl
    (record { unpinned = refl; earlier = tt; later = tt }) (EvictsVictim.leaves 10 (lit< tt))))
    (EvictsToCapacity.has_room _ (lit≤ tt))))

-- a cache of capacity 0: each pair is too heavy, `before_evict` is asked for a lighter value, and
-- the cold hook gets it
pub capacity_zero_keeps_nothing
    : Writes unit_rules (is 1) 1 Insert (empty_state 0 0 0) 10
    (BeforeEvict 1 10 10 ∷ EvictCold 1 10 ∷ []) None
    (empty_state 0 0 0)
capacity_zero_keeps_nothing =
    Writes.too_heavy (BeforeEvict 1 10 10 ∷ []) (EvictCold 1 10 ∷ []) 10 None _
    (ChecksAdmission.is_too_heavy 10 (lit< tt) refl (lit< tt))
    (RejectsTooHeavy.reports [] _ refl (TakesOutItem.was_absent
    (record { hot = tt; cold = tt; still = tt })))

-- an unmarked item of the cold ring makes room for a new one, and leaves a ghost
pub a_cold_item_leaves_a_ghost
    : Writes unit_rules (is 3) 3 Insert
    (record (empty_state 2 1 1) { hot = hot_item 1 1 1 0 ∷ []; cold = cold_item 2 1 1 0 ∷ [] }) 1
    (BeforeEvict 2 1 1 ∷ EvictCold 2 1 ∷ []) None
    (record (empty_state 2 1 1) {
      hot = hot_item 1 1 1 0 ∷ [];
      cold =
          cold_item 3 1 1 0 ∷ [];
      ghosts = 2 ∷ [];
    })
a_cold_item_leaves_a_ghost =
    Writes.admitted [] _ 1 None _ (ChecksAdmission.is_light (lit≤ tt))
    (WritesAdmitted.inserts_new _ _ refl
    (record {
      keys = record {
        items = record { hot = (refl, tt); cold = (refl, tt); still = tt };
        loading = tt;
      };
      ghosts = tt;
    })
    (EvictsToCapacity.goes_on _ _ _ (BeforeEvict 2 1 1 ∷ EvictCold 2 1 ∷ []) [] (lit< tt)
    (AdvancesCold.evicts _ [] (cold_item 2 1 1 0) [] _ _ (untouched (cold_item 2 1 1 0 ∷ []))
    refl tt refl refl
    (EvictsVictim.leaves 1 (lit< tt)))
    (EvictsToCapacity.has_room _ (lit≤ tt))))

-- a key whose ghost is still known comes back hot, though the hot ring is at its target; the oldest
-- ghost makes way
pub a_ghost_returns_hot
    : Writes unit_rules (is 2) 2 Insert
    (record (empty_state 2 1 1) {
      hot = hot_item 1 1 1 0 ∷ [];
      cold =
          cold_item 3 1 1 0 ∷ [];
      ghosts = 2 ∷ [];
    }) 1
    (BeforeEvict 3 1 1 ∷ EvictCold 3 1 ∷ []) None
    (record (empty_state 2 1 1) { hot = hot_item 1 1 1 0 ∷ hot_item 2 1 1 0 ∷ []; ghosts = 3 ∷ [] })
a_ghost_returns_hot =
    Writes.admitted [] _ 1 None _ (ChecksAdmission.is_light (lit≤ tt))
    (WritesAdmitted.inserts_over_ghost [] [] _ _ refl
    (record {
      keys = record {
        items = record { hot = (refl, tt); cold = (refl, tt); still = tt };
        loading = tt;
      };
      split = refl;
    })
    (EvictsToCapacity.goes_on _ _ _ (BeforeEvict 3 1 1 ∷ EvictCold 3 1 ∷ []) [] (lit< tt)
    (AdvancesCold.evicts _ [] (cold_item 3 1 1 0) [] _ _ (untouched (cold_item 3 1 1 0 ∷ []))
    refl tt refl refl
    (EvictsVictim.leaves 1 (lit< tt)))
    (EvictsToCapacity.has_room _ (lit≤ tt))))

-- a ghost is known by its hash alone: another key of equal hash takes it, and comes in hot
pub another_key_of_equal_hash_takes_the_ghost
    : Writes digit_rules (is 1005) 1005 Insert
    (record (empty_state 2 1 1) {
      hot = hot_item 1 1 1 0 ∷ [];
      cold =
          cold_item 6 1 1 0 ∷ [];
      ghosts = 5 ∷ [];
    }) 1
    (BeforeEvict 6 1 1 ∷ EvictCold 6 1 ∷ []) None
    (record (empty_state 2 1 1) {
      hot = hot_item 1 1 1 0 ∷ hot_item 1005 1 1 0 ∷ [];
      ghosts =
          6 ∷ [];
    })
another_key_of_equal_hash_takes_the_ghost =
    Writes.admitted [] _ 1 None _ (ChecksAdmission.is_light (lit≤ tt))
    (WritesAdmitted.inserts_over_ghost [] [] _ _ refl
    (record {
      keys = record {
        items = record { hot = (refl, tt); cold = (refl, tt); still = tt };
        loading = tt;
      };
      split = refl;
    })
    (EvictsToCapacity.goes_on _ _ _ (BeforeEvict 6 1 1 ∷ EvictCold 6 1 ∷ []) [] (lit< tt)
    (AdvancesCold.evicts _ [] (cold_item 6 1 1 0) [] _ _ (untouched (cold_item 6 1 1 0 ∷ []))
    refl tt refl refl
    (EvictsVictim.leaves 1 (lit< tt)))
    (EvictsToCapacity.has_room _ (lit≤ tt))))

-- and an item whose key has the same hash as the query is no hit
pub an_item_of_equal_hash_is_a_miss
    : LooksUp (is 5) (record (empty_state 2 1 1)
    { hot = hot_item 1 1 1 0 ∷ hot_item 1005 1 1 0 ∷ []; ghosts = 6 ∷ [] })
    (λ item. item.value) None
    (record (empty_state 2 1 1) {
      hot = hot_item 1 1 1 0 ∷ hot_item 1005 1 1 0 ∷ [];
      ghosts =
          6 ∷ [];
      misses = 1;
    })
an_item_of_equal_hash_is_a_miss = LooksUp.miss
    (record { hot = (refl, (refl, tt)); cold = tt; still = tt })
