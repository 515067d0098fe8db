-- Writes over what is there, and pairs that are too heavy.
use Rattle.std.proofs.Common.{[], ◌∷◌, refl, lit<, lit≤, true, false, Some, None}
use Rattle.quick_cache_model.specs.CacheState.{empty_state, InHot, InCold}
use Rattle.quick_cache_model.specs.Hooks.{BeforeEvict, EvictHot, EvictCold}
use Rattle.quick_cache_model.specs.Eviction.{EvictsToCapacity, AdvancesHot, AdvancesCold, EvictsVictim}
use Rattle.quick_cache_model.specs.Admission.{ChecksAdmission}
use Rattle.quick_cache_model.specs.Writes.{Insert, Replace, SoftReplace, Writes, WritesAdmitted, RejectsTooHeavy, TakesOutItem}
use Rattle.quick_cache_laws.proofs.Examples.Caches.{unit_rules, digit_rules, is, hot_item, cold_item, untouched}

-- a replace with a pair that is too heavy: the item under the key goes, and the pair comes back
pub a_replace_too_heavy_takes_the_item_with_it
    : Writes digit_rules (is 1) 1 Replace (record (empty_state 100 97 50)
    { hot = hot_item 1 10 10 0 ∷ [] }) 98
    (BeforeEvict 1 98 98 ∷ EvictHot 1 10 ∷ []) (Some (1, 98)) (empty_state 100 97 50)
a_replace_too_heavy_takes_the_item_with_it =
    Writes.too_heavy (BeforeEvict 1 98 98 ∷ []) (EvictHot 1 10 ∷ []) 98 _ _
    (ChecksAdmission.is_too_heavy 98 (lit< tt) refl (lit< tt))
    (RejectsTooHeavy.gives_back _ _ tt
    (TakesOutItem.was_there InHot [] (hot_item 1 10 10 0) []
    (record { split = refl; passes = refl })))

-- an insert with such a pair: the item goes first, and then the pair is told to the cold hook
pub an_insert_too_heavy_takes_the_item_with_it
    : Writes digit_rules (is 1) 1 Insert (record (empty_state 100 97 50)
    { hot = hot_item 1 10 10 0 ∷ [] }) 98
    (BeforeEvict 1 98 98 ∷ EvictHot 1 10 ∷ EvictCold 1 98 ∷ []) None (empty_state 100 97 50)
an_insert_too_heavy_takes_the_item_with_it =
    Writes.too_heavy (BeforeEvict 1 98 98 ∷ []) (EvictHot 1 10 ∷ EvictCold 1 98 ∷ []) 98 _ _
    (ChecksAdmission.is_too_heavy 98 (lit< tt) refl (lit< tt))
    (RejectsTooHeavy.reports (EvictHot 1 10 ∷ []) _ refl
    (TakesOutItem.was_there InHot [] (hot_item 1 10 10 0) []
    (record { split = refl; passes = refl })))

-- `before_evict` lightens a pair that is too heavy, and what it left is kept
pub a_pair_that_was_lightened_is_kept
    : Writes digit_rules (is 1) 1 Insert (empty_state 40 38 5) 350 (BeforeEvict 1 350 301 ∷ []) None
    (record (empty_state 40 38 5) { hot = hot_item 1 301 1 0 ∷ [] })
a_pair_that_was_lightened_is_kept =
    Writes.admitted (BeforeEvict 1 350 301 ∷ []) [] 301 None _
    (ChecksAdmission.was_lightened 301 (lit< tt) refl (lit≤ tt))
    (WritesAdmitted.inserts_new _ _ refl
    (record {
      keys = record { items = record { hot = tt; cold = tt; still = tt }; loading = tt };
      ghosts = tt;
    })
    (EvictsToCapacity.has_room _ (lit≤ tt)))

-- a pinned pair is kept, however heavy
pub a_pinned_pair_is_never_too_heavy
    : Writes digit_rules (is 1) 1 Insert (empty_state 2 1 1) 150 [] None
    (record (empty_state 2 1 1) { cold = cold_item 1 150 50 0 ∷ [] })
a_pinned_pair_is_never_too_heavy =
    Writes.admitted [] _ 150 None _ (ChecksAdmission.is_pinned (lit< tt) refl)
    (WritesAdmitted.inserts_new _ _ refl
    (record {
      keys = record { items = record { hot = tt; cold = tt; still = tt }; loading = tt };
      ghosts = tt;
    })
    (EvictsToCapacity.gives_up _ _ _ (lit< tt)
    (AdvancesCold.passes_all [] false _ _ tt tt (AdvancesHot.all_pinned [] tt tt))))

-- an insert over an item: the old pair is told to the hook of its queue, without `before_evict`,
-- and the item is marked
pub an_overwrite_tells_the_hook_of_the_queue
    : Writes digit_rules (is 1) 1 Insert (record (empty_state 2 1 1)
    { hot = hot_item 1 201 1 0 ∷ [] }) 1
    (EvictHot 1 201 ∷ []) None (record (empty_state 2 1 1) { hot = hot_item 1 1 1 1 ∷ [] })
an_overwrite_tells_the_hook_of_the_queue =
    Writes.admitted [] _ 1 None _ (ChecksAdmission.is_light (lit≤ tt))
    (WritesAdmitted.overwrites InHot [] (hot_item 1 201 1 0) (hot_item 1 201 1 0) [] [] _
    (record { split = refl; passes = refl }) (0, refl, refl)
    (EvictsToCapacity.has_room _ (lit≤ tt)))

-- the same over an item of the cold ring, which keeps its place
pub an_overwritten_cold_item_stays_cold
    : Writes unit_rules (is 2) 2 Insert
    (record (empty_state 5 4 2) {
      cold = cold_item 1 7 1 0 ∷ cold_item 2 8 1 2 ∷ cold_item 3 9 1 0 ∷
          [];
    }) 10
    (EvictCold 2 8 ∷ []) None
    (record (empty_state 5 4 2) {
      cold = cold_item 1 7 1 0 ∷ cold_item 2 10 1 2 ∷ cold_item 3 9 1 0
          ∷ [];
    })
an_overwritten_cold_item_stays_cold =
    Writes.admitted [] _ 10 None _ (ChecksAdmission.is_light (lit≤ tt))
    (WritesAdmitted.overwrites InCold (cold_item 1 7 1 0 ∷ []) (cold_item 2 8 1 2)
    (cold_item 2 8 1 2)
    (cold_item 3 9 1 0 ∷ []) [] _ (record { split = refl; passes = refl }) (0, refl, refl)
    (EvictsToCapacity.has_room _ (lit≤ tt)))

-- a soft replace does not mark; here the new value is so heavy that its item is the next victim,
-- and it still succeeded
pub a_value_that_was_just_written_may_go_at_once
    : Writes digit_rules (is 1) 1 SoftReplace
    (record (empty_state 100 97 50) { hot = hot_item 1 50 50 0 ∷ hot_item 2 47 47 0 ∷ [] }) 60
    (EvictHot 1 50 ∷ BeforeEvict 1 60 60 ∷ EvictHot 1 60 ∷ []) None
    (record (empty_state 100 97 50) { hot = hot_item 2 47 47 0 ∷ [] })
a_value_that_was_just_written_may_go_at_once =
    Writes.admitted [] _ 60 None _ (ChecksAdmission.is_light (lit≤ tt))
    (WritesAdmitted.overwrites InHot [] (hot_item 1 50 50 0) (hot_item 1 50 50 0)
    (hot_item 2 47 47 0 ∷ [])
    (BeforeEvict 1 60 60 ∷ EvictHot 1 60 ∷ []) _ (record { split = refl; passes = refl })
    (0, refl, refl)
    (EvictsToCapacity.goes_on _ _ _ (BeforeEvict 1 60 60 ∷ EvictHot 1 60 ∷ []) [] (lit< tt)
    (AdvancesCold.passes_all [] true _ _ tt tt
    (AdvancesHot.evicts _ [] (hot_item 1 60 60 0) (hot_item 2 47 47 0 ∷ []) _ _
    (untouched (hot_item 1 60 60 0 ∷ hot_item 2 47 47 0 ∷ [])) refl
    (record { unpinned = refl; earlier = tt; later = ((λ _. lit≤ tt), tt) })
    (EvictsVictim.leaves 60 (lit< tt))))
    (EvictsToCapacity.has_room _ (lit≤ tt))))

-- a replace where no item stands gives the pair back, and a ghost of the key stays
pub a_replace_of_no_item_gives_the_pair_back
    : Writes unit_rules (is 1) 1 Replace (record (empty_state 5 4 2) { ghosts = 1 ∷ [] }) 10 []
    (Some (1, 10))
    (record (empty_state 5 4 2) { ghosts = 1 ∷ [] })
a_replace_of_no_item_gives_the_pair_back =
    Writes.admitted [] _ 10 _ _ (ChecksAdmission.is_light (lit≤ tt))
    (WritesAdmitted.gives_back tt (record { hot = tt; cold = tt; still = tt }))
