-- Items of weight 0, which stand in no ring.
use Rattle.std.proofs.Common.{◌≡◌, [], ◌∷◌, refl, lit<, lit≤, true, None}
use Rattle.quick_cache_model.specs.CacheState.{empty_state, InHot, InStill}
use Rattle.quick_cache_model.specs.Hooks.{BeforeEvict, EvictHot}
use Rattle.quick_cache_model.specs.Eviction.{EvictsToCapacity, AdvancesHot, AdvancesCold, EvictsVictim}
use Rattle.quick_cache_model.specs.Admission.{ChecksAdmission}
use Rattle.quick_cache_model.specs.Writes.{Insert, Writes, WritesAdmitted}
use Rattle.quick_cache_model.specs.Removal.{reweighed}
use Rattle.quick_cache_laws.proofs.Examples.Caches.{digit_rules, is, hot_item, cold_item, untouched}

-- the value of an item is set to one of weight 0: the item leaves its ring, which then begins
-- behind it
pub an_item_that_loses_its_weight_leaves_its_ring
    : reweighed digit_rules InHot (hot_item 1 30 30 0 ∷ []) (hot_item 2 30 30 0)
    (hot_item 3 30 30 0 ∷ []) 0
    (record (empty_state 100 97 50) {
      hot = hot_item 1 30 30 0 ∷ hot_item 2 30 30 0 ∷ hot_item 3 30
          30 0 ∷ [];
    })
    ≡ record (empty_state 100 97 50) {
      hot = hot_item 3 30 30 0 ∷ hot_item 1 30 30 0 ∷ [];
      still = hot_item 2 0 0 0 ∷ [];
    }
an_item_that_loses_its_weight_leaves_its_ring = refl

-- so what stood behind it is the next victim
pub the_item_behind_a_weightless_one_goes_next
    : Writes digit_rules (is 5) 5 Insert
    (record (empty_state 100 97 50) {
      hot = hot_item 3 30 30 0 ∷ hot_item 1 30 30 0 ∷ hot_item 4 30 30 0 ∷ [];
      still = hot_item 2 0 0 0 ∷ [];
    }) 30 (BeforeEvict 3 30 30 ∷ EvictHot 3 30 ∷ []) None
    (record (empty_state 100 97 50) {
      hot = hot_item 1 30 30 0 ∷ hot_item 4 30 30 0 ∷ [];
      cold = cold_item 5 30 30 0 ∷ [];
      still = hot_item 2 0 0 0 ∷ [];
    })
the_item_behind_a_weightless_one_goes_next =
    Writes.admitted [] _ 30 None _ (ChecksAdmission.is_light (lit≤ tt))
    (WritesAdmitted.inserts_new _ _ refl
    (record {
      keys = record {
        items = record { hot = (refl, (refl, (refl, tt))); cold = tt; still = (refl, tt) };
        loading = tt;
      };
      ghosts = tt;
    })
    (EvictsToCapacity.goes_on _ _ _ (BeforeEvict 3 30 30 ∷ EvictHot 3 30 ∷ []) [] (lit< tt)
    (AdvancesCold.passes_all [] true _ _ tt tt
    (AdvancesHot.evicts _ [] (hot_item 3 30 30 0) (hot_item 1 30 30 0 ∷ hot_item 4 30 30 0 ∷ []) _ _
    (untouched (hot_item 3 30 30 0 ∷ hot_item 1 30 30 0 ∷ hot_item 4 30 30 0 ∷ [])) refl
    (record { unpinned = refl; earlier = tt; later = ((λ _. lit≤ tt), ((λ _. lit≤ tt), tt)) })
    (EvictsVictim.leaves 30 (lit< tt))))
    (EvictsToCapacity.has_room _ (lit≤ tt))))

-- an item that gains weight is put last in its ring, and nothing makes room for it yet
pub an_item_that_gains_weight_is_put_last
    : reweighed digit_rules InStill [] (hot_item 2 0 0 0) [] 30
    (record (empty_state 50 48 25) {
      hot = hot_item 3 30 30 0 ∷ [];
      still = hot_item 2 0 0 0 ∷ [];
    })
    ≡ record (empty_state 50 48 25) { hot = hot_item 3 30 30 0 ∷ hot_item 2 30 30 0 ∷ [] }
an_item_that_gains_weight_is_put_last = refl

-- `before_evict` leaves a value of weight 0: the victim stays, outside the rings, and no other hook
-- is called
pub a_victim_made_weightless_stays
    : Writes digit_rules (is 3) 3 Insert
    (record (empty_state 2 1 1) { hot = hot_item 1 201 1 0 ∷ []; cold = cold_item 2 201 1 0 ∷ [] })
    1
    (BeforeEvict 2 201 200 ∷ []) None
    (record (empty_state 2 1 1) {
      hot = hot_item 1 201 1 0 ∷ [];
      cold = cold_item 3 1 1 0 ∷ [];
      still = cold_item 2 200 0 0 ∷ [];
    })
a_victim_made_weightless_stays =
    Writes.admitted [] _ 1 None _ (ChecksAdmission.is_light (lit≤ tt))
    (WritesAdmitted.inserts_new _ _ refl
    (record {
      keys = record {
        items = record { hot = (refl, tt); cold = (refl, tt); still = tt };
        loading = tt;
      };
      ghosts = tt;
    })
    (EvictsToCapacity.goes_on _ _ _ (BeforeEvict 2 201 200 ∷ []) [] (lit< tt)
    (AdvancesCold.evicts _ [] (cold_item 2 201 1 0) [] _ _ (untouched (cold_item 2 201 1 0 ∷ []))
    refl tt refl refl
    (EvictsVictim.stays 200 refl))
    (EvictsToCapacity.has_room _ (lit≤ tt))))
