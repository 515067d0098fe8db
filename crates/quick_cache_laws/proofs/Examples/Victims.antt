-- Which item makes room: the least marked of the hot ring, and what a cold advance passes by.
use Rattle.std.proofs.Common.{[], ◌∷◌, refl, lit<, lit≤, None, arith, true≢false}
use Rattle.quick_cache_model.specs.CacheState.{empty_state}
use Rattle.quick_cache_model.specs.Hooks.{BeforeEvict, EvictHot}
use Rattle.quick_cache_model.specs.Eviction.{EvictsToCapacity, EvictsToTarget, AdvancesHot, AdvancesCold, EvictsVictim, IsFirstVictim}
use Rattle.quick_cache_model.specs.Admission.{ChecksAdmission}
use Rattle.quick_cache_model.specs.Writes.{Insert, Writes, WritesAdmitted}
use Rattle.quick_cache_laws.proofs.Examples.Caches.{unit_rules, digit_rules, is, hot_item, cold_item, untouched}

-- a marked item of the cold ring is promoted, and the unmarked one that was hot before it goes
pub a_marked_cold_item_pushes_a_hot_one_out
    : Writes unit_rules (is 3) 3 Insert
    (record (empty_state 2 1 1) { hot = hot_item 1 1 1 0 ∷ []; cold = cold_item 2 1 1 1 ∷ [] }) 1
    (BeforeEvict 1 1 1 ∷ EvictHot 1 1 ∷ []) None
    (record (empty_state 2 1 1) { hot = hot_item 2 1 1 0 ∷ []; cold = cold_item 3 1 1 0 ∷ [] })
a_marked_cold_item_pushes_a_hot_one_out =
    Writes.admitted [] _ 1 None _ (ChecksAdmission.is_light (lit≤ tt))
    (WritesAdmitted.inserts_new _ _ refl
    (record {
      keys = record {
        items = record { hot = (refl, tt); cold = (refl, tt); still = tt };
        loading = tt;
      };
      ghosts = tt;
    })
    (EvictsToCapacity.goes_on _ _ _ (BeforeEvict 1 1 1 ∷ EvictHot 1 1 ∷ []) [] (lit< tt)
    (AdvancesCold.promotes _ [] (cold_item 2 1 1 1) [] _ _ (untouched (cold_item 2 1 1 1 ∷ []))
    refl tt (lit< tt)
    (EvictsToTarget.goes_on _ _ _ (BeforeEvict 1 1 1 ∷ EvictHot 1 1 ∷ []) [] (lit< tt)
    (AdvancesHot.evicts _ [] (hot_item 1 1 1 0) (hot_item 2 1 1 0 ∷ []) _ _
    (untouched (hot_item 1 1 1 0 ∷ hot_item 2 1 1 0 ∷ [])) refl
    (record { unpinned = refl; earlier = tt; later = ((λ _. lit≤ tt), tt) })
    (EvictsVictim.leaves 1 (lit< tt)))
    (EvictsToTarget.has_room _ (lit≤ tt))))
    (EvictsToCapacity.has_room _ (lit≤ tt))))

-- where the one before it is marked, the promoted item itself is the victim, and the other pays its
-- mark
pub the_least_marked_hot_item_is_the_victim
    : Writes unit_rules (is 3) 3 Insert
    (record (empty_state 2 1 1) { hot = hot_item 1 1 1 1 ∷ []; cold = cold_item 2 1 1 1 ∷ [] }) 1
    (BeforeEvict 2 1 1 ∷ EvictHot 2 1 ∷ []) None
    (record (empty_state 2 1 1) { hot = hot_item 1 1 1 0 ∷ []; cold = cold_item 3 1 1 0 ∷ [] })
the_least_marked_hot_item_is_the_victim =
    Writes.admitted [] _ 1 None _ (ChecksAdmission.is_light (lit≤ tt))
    (WritesAdmitted.inserts_new _ _ refl
    (record {
      keys = record {
        items = record { hot = (refl, tt); cold = (refl, tt); still = tt };
        loading = tt;
      };
      ghosts = tt;
    })
    (EvictsToCapacity.goes_on _ _ _ (BeforeEvict 2 1 1 ∷ EvictHot 2 1 ∷ []) [] (lit< tt)
    (AdvancesCold.promotes _ [] (cold_item 2 1 1 1) [] _ _ (untouched (cold_item 2 1 1 1 ∷ []))
    refl tt (lit< tt)
    (EvictsToTarget.goes_on _ _ _ (BeforeEvict 2 1 1 ∷ EvictHot 2 1 ∷ []) [] (lit< tt)
    (AdvancesHot.evicts _ (hot_item 1 1 1 1 ∷ []) (hot_item 2 1 1 0) [] _ _
    (untouched (hot_item 1 1 1 1 ∷ hot_item 2 1 1 0 ∷ [])) refl
    (record { unpinned = refl; earlier = ((λ _. lit< tt), tt); later = tt })
    (EvictsVictim.leaves 1 (lit< tt)))
    (EvictsToTarget.has_room _ (lit≤ tt))))
    (EvictsToCapacity.has_room _ (lit≤ tt))))

-- an item with more marks than another is no victim
pub a_more_marked_item_is_no_victim : IsFirstVictim unit_rules [] (hot_item 1 1 1 1)
    (hot_item 2 1 1 0 ∷ []) → ⊥
a_more_marked_item_is_no_victim victim = omega (arith, victim.later.0 refl)

-- nor is a later one with no fewer marks
pub a_later_item_as_marked_is_no_victim : IsFirstVictim unit_rules (hot_item 1 1 1 0 ∷ [])
    (hot_item 2 1 1 0) [] → ⊥
a_later_item_as_marked_is_no_victim victim = omega (arith, victim.earlier.0 refl)

-- nor is a pinned one, though it is alone
pub a_pinned_item_is_no_victim : IsFirstVictim digit_rules [] (hot_item 1 101 1 0) [] → ⊥
a_pinned_item_is_no_victim victim = true≢false victim.unpinned

-- pins do not count among the least marks: the first unpinned item is the victim, though a pinned
-- one has fewer
pub the_least_mark_is_that_of_the_unpinned
    : IsFirstVictim digit_rules (hot_item 1 101 1 0 ∷ []) (hot_item 2 1 1 1) (hot_item 3 1 1 1 ∷ [])
the_least_mark_is_that_of_the_unpinned =
    record {
      unpinned = refl;
      earlier = ((λ unpinned. absurd (true≢false unpinned)), tt);
      later =
          ((λ _. lit≤ tt), tt);
    }
