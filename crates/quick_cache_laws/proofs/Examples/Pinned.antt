-- Pinned items.
use Rattle.std.proofs.Common.{[], ◌∷◌, refl, lit<, lit≤, None, false}
use Rattle.quick_cache_model.specs.CacheState.{empty_state}
use Rattle.quick_cache_model.specs.Hooks.{BeforeEvict, EvictHot}
use Rattle.quick_cache_model.specs.Eviction.{EvictsToCapacity, EvictsToTarget, AdvancesHot, AdvancesCold, EvictsVictim}
use Rattle.quick_cache_model.specs.Admission.{ChecksAdmission}
use Rattle.quick_cache_model.specs.Writes.{Insert, Writes, WritesAdmitted}
use Rattle.quick_cache_laws.proofs.Examples.Caches.{digit_rules, is, hot_item, cold_item, untouched}

-- pinned items stay, though the cache is then above its capacity; all that the advance takes of
-- them is a mark
pub pinned_items_keep_the_cache_over_its_capacity
    : Writes digit_rules (is 3) 3 Insert
    (record (empty_state 2 1 1) { hot = hot_item 1 101 1 1 ∷ []; cold = cold_item 2 101 1 0 ∷ [] })
    1 [] None
    (record (empty_state 2 1 1) {
      hot = hot_item 1 101 1 0 ∷ [];
      cold =
          cold_item 2 101 1 0 ∷ cold_item 3 1 1 0 ∷ [];
    })
pinned_items_keep_the_cache_over_its_capacity =
    Writes.admitted [] _ 1 None _ (ChecksAdmission.is_light (lit≤ tt))
    (WritesAdmitted.inserts_new _ _ refl
    (record {
      keys = record {
        items = record { hot = (refl, tt); cold = (refl, tt); still = tt };
        loading = tt;
      };
      ghosts = tt;
    })
    (EvictsToCapacity.gives_up _ _ _ (lit< tt)
    (AdvancesCold.passes_all (cold_item 2 101 1 0 ∷ []) false _ _
    (untouched (cold_item 2 101 1 0 ∷ [])) ((refl, refl), tt)
    (AdvancesHot.all_pinned (hot_item 1 101 1 1 ∷ []) (untouched (hot_item 1 101 1 1 ∷ []))
    (refl, tt)))))

-- a cold advance passes by a pinned item that is unmarked, and the ring then begins behind the item
-- that it took: so the passed one stands last
pub a_passed_pinned_item_stands_behind
    : Writes digit_rules (is 6) 6 Insert
    (record (empty_state 5 2 2) {
      hot = hot_item 1 1 1 0 ∷ hot_item 2 1 1 0 ∷ [];
      cold = cold_item 3 101 1 0 ∷ cold_item 4 1 1 1 ∷ cold_item 5 1 1 0 ∷ [];
    }) 1 (BeforeEvict 1 1 1 ∷ EvictHot 1 1 ∷ []) None
    (record (empty_state 5 2 2) {
      hot = hot_item 2 1 1 0 ∷ hot_item 4 1 1 0 ∷ [];
      cold = cold_item 5 1 1 0 ∷ cold_item 3 101 1 0 ∷ cold_item 6 1 1 0 ∷ [];
    })
a_passed_pinned_item_stands_behind =
    Writes.admitted [] _ 1 None _ (ChecksAdmission.is_light (lit≤ tt))
    (WritesAdmitted.inserts_new _ _ refl
    (record {
      keys = record {
        items = record { hot = (refl, (refl, tt)); cold = (refl, (refl, (refl, tt))); still = tt };
        loading = tt;
      };
      ghosts = tt;
    })
    (EvictsToCapacity.goes_on _ _ _ (BeforeEvict 1 1 1 ∷ EvictHot 1 1 ∷ []) [] (lit< tt)
    (AdvancesCold.promotes _ (cold_item 3 101 1 0 ∷ []) (cold_item 4 1 1 1) (cold_item 5 1 1 0 ∷ [])
    _ _
    (untouched (cold_item 3 101 1 0 ∷ cold_item 4 1 1 1 ∷ cold_item 5 1 1 0 ∷ []))
    refl ((refl, refl), tt) (lit< tt)
    (EvictsToTarget.goes_on _ _ _ (BeforeEvict 1 1 1 ∷ EvictHot 1 1 ∷ []) [] (lit< tt)
    (AdvancesHot.evicts _ [] (hot_item 1 1 1 0) (hot_item 2 1 1 0 ∷ hot_item 4 1 1 0 ∷ []) _ _
    (untouched (hot_item 1 1 1 0 ∷ hot_item 2 1 1 0 ∷ hot_item 4 1 1 0 ∷ [])) refl
    (record { unpinned = refl; earlier = tt; later = ((λ _. lit≤ tt), ((λ _. lit≤ tt), tt)) })
    (EvictsVictim.leaves 1 (lit< tt)))
    (EvictsToTarget.has_room _ (lit≤ tt))))
    (EvictsToCapacity.has_room _ (lit≤ tt))))
