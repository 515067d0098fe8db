-- Inserts that take an item out of the hot ring: each lacks one thing that a scan asks for. Where
-- it is the state that is not ready, a call that is none of a scan may have left it so.
use Rattle.std.proofs.Common.{ℕ, List, [], ◌∷◌, Some, None, refl, lit<, lit≤, ap, arith, true}
use Rattle.quick_cache_model.specs.Admission.{ChecksAdmission}
use Rattle.quick_cache_model.specs.CacheState.{CacheState, Item, empty_state, InCold}
use Rattle.quick_cache_model.specs.Eviction.{EvictsToCapacity, EvictsToTarget, AdvancesCold, AdvancesHot, EvictsVictim}
use Rattle.quick_cache_model.specs.Hooks.{BeforeEvict, EvictHot}
use Rattle.quick_cache_model.specs.Lookups.{LooksUp}
use Rattle.quick_cache_model.specs.Writes.{Writes, WritesAdmitted, Insert as insertion}
use Rattle.quick_cache_laws.specs.Scans.{KeepsHot}
use Rattle.quick_cache_laws.proofs.ScanExamples.Caches.{value_rules, equal, hot_item, cold_item, untouched}

-- the key of the first item
abbrev pub first_key : List (Item ℕ ℕ) → ℕ
first_key [] = 0
first_key (item ∷ _) = item.key

-- an insert of the pair (5, 1), where nothing is found under its key, evicts the hot item of key 1
pub record LosesOne (old new : CacheState ℕ ℕ) : Type 0 where
  pub step : Writes value_rules (equal 5) 5 insertion old 1 (BeforeEvict 1 1 1 ∷ EvictHot 1 1 ∷ [])
      None new
  pub loses : KeepsHot old new → ⊥

-- the item of the cold ring is marked
abbrev pub marked : CacheState ℕ ℕ
marked = record (empty_state 2 1 1) {
  hot = hot_item 1 1 0 ∷ [];
  cold = record (cold_item 2 1 1) { reads = 1 } ∷ [];
  hits = 1;
}

-- the item of the cold ring is pinned
abbrev pub pinned_cold : CacheState ℕ ℕ
pinned_cold = record (empty_state 2 1 1) { hot = hot_item 1 1 0 ∷ []; cold = cold_item 9 1 0 ∷ [] }

-- the hot ring is above its target
abbrev pub above_target : CacheState ℕ ℕ
above_target = record (empty_state 2 1 1) { hot = hot_item 1 1 0 ∷ hot_item 2 1 0 ∷ [] }

-- a look-up of a key in the cold ring leaves a mark
pub a_look_leaves_a_mark
    : LooksUp (equal 2)
    (record (empty_state 2 1 1) { hot = hot_item 1 1 0 ∷ []; cold = cold_item 2 1 0 ∷ [] })
    (λ item. item.value) (Some 1) marked
a_look_leaves_a_mark =
    LooksUp.hit InCold [] (cold_item 2 1 0) [] (record { split = refl; passes = refl })

-- so the cold item is promoted
pub a_mark_in_the_cold_ring
    : LosesOne marked
    (record (empty_state 2 1 1) {
      hot = record (hot_item 2 1 0) { reads = 1 } ∷ [];
      cold = cold_item 5 1 0 ∷ [];
      hits = 1;
    })
a_mark_in_the_cold_ring = record {
  step =
      Writes.admitted [] _ 1 None _ (ChecksAdmission.is_light (lit≤ tt))
      (WritesAdmitted.inserts_new _ _ refl
      (record {
        keys = record {
          items = record { hot = (refl, tt); cold = (refl, tt); still = tt };
          loading = tt;
        };
        ghosts = tt;
      })
      (EvictsToCapacity.goes_on _ _ _ (BeforeEvict 1 1 1 ∷ EvictHot 1 1 ∷ []) [] (lit< tt)
      (AdvancesCold.promotes _ [] (record (cold_item 2 1 1) { reads = 1 }) [] _ _
      (untouched (record (cold_item 2 1 1) { reads = 1 } ∷ [])) refl tt (lit< tt)
      (EvictsToTarget.goes_on _ _ _ (BeforeEvict 1 1 1 ∷ EvictHot 1 1 ∷ []) [] (lit< tt)
      (AdvancesHot.evicts _ [] (hot_item 1 1 0) (record (hot_item 2 1 0) { reads = 1 } ∷ []) _ _
      (untouched (hot_item 1 1 0 ∷ record (hot_item 2 1 0) { reads = 1 } ∷ [])) refl
      (record { unpinned = refl; earlier = tt; later = ((λ _. lit≤ tt), tt) })
      (EvictsVictim.leaves 1 (lit< tt)))
      (EvictsToTarget.has_room _ (lit≤ tt))))
      (EvictsToCapacity.has_room _ (lit≤ tt))));
  loses = λ keeps. omega (arith, ap first_key keeps.kept);
}

-- an insert of a pinned pair leaves it in the cold ring
pub an_insert_leaves_a_pin
    : Writes value_rules (equal 9) 9 insertion
    (record (empty_state 2 1 1) { hot = hot_item 1 1 0 ∷ [] }) 1 [] None pinned_cold
an_insert_leaves_a_pin =
    Writes.admitted [] _ 1 None _ (ChecksAdmission.is_light (lit≤ tt))
    (WritesAdmitted.inserts_new _ _ refl
    (record {
      keys = record { items = record { hot = (refl, tt); cold = tt; still = tt }; loading = tt };
      ghosts = tt;
    })
    (EvictsToCapacity.has_room _ (lit≤ tt)))

-- so it is passed by
pub a_pin_in_the_cold_ring
    : LosesOne pinned_cold
    (record (empty_state 2 1 1) { hot = []; cold = cold_item 9 1 0 ∷ cold_item 5 1 0 ∷ [] })
a_pin_in_the_cold_ring = record {
  step =
      Writes.admitted [] _ 1 None _ (ChecksAdmission.is_light (lit≤ tt))
      (WritesAdmitted.inserts_new _ _ refl
      (record {
        keys = record {
          items = record { hot = (refl, tt); cold = (refl, tt); still = tt };
          loading = tt;
        };
        ghosts = tt;
      })
      (EvictsToCapacity.goes_on _ _ _ (BeforeEvict 1 1 1 ∷ EvictHot 1 1 ∷ []) [] (lit< tt)
      (AdvancesCold.passes_all (cold_item 9 1 0 ∷ []) true _ _ (untouched (cold_item 9 1 0 ∷ []))
      ((refl, refl), tt)
      (AdvancesHot.evicts _ [] (hot_item 1 1 0) [] _ _ (untouched (hot_item 1 1 0 ∷ [])) refl
      (record { unpinned = refl; earlier = tt; later = tt }) (EvictsVictim.leaves 1 (lit< tt))))
      (EvictsToCapacity.has_room _ (lit≤ tt))));
  loses = λ keeps. omega (arith, ap first_key keeps.kept);
}

-- the pair has no room beside a hot ring that is at its target, here the whole capacity
pub no_room_beside_the_hot_ring
    : LosesOne (record (empty_state 1 1 1) { hot = hot_item 1 1 0 ∷ [] })
    (record (empty_state 1 1 1) { cold = cold_item 5 1 0 ∷ [] })
no_room_beside_the_hot_ring = record {
  step =
      Writes.admitted [] _ 1 None _ (ChecksAdmission.is_light (lit≤ tt))
      (WritesAdmitted.inserts_new _ _ refl
      (record {
        keys = record { items = record { hot = (refl, tt); cold = tt; still = tt }; loading = tt };
        ghosts = tt;
      })
      (EvictsToCapacity.goes_on _ _ _ (BeforeEvict 1 1 1 ∷ EvictHot 1 1 ∷ []) [] (lit< tt)
      (AdvancesCold.passes_all [] true _ _ tt tt
      (AdvancesHot.evicts _ [] (hot_item 1 1 0) [] _ _ (untouched (hot_item 1 1 0 ∷ [])) refl
      (record { unpinned = refl; earlier = tt; later = tt }) (EvictsVictim.leaves 1 (lit< tt))))
      (EvictsToCapacity.has_room _ (lit≤ tt))));
  loses = λ keeps. omega (arith, ap first_key keeps.kept);
}

-- an insert over a ghost makes the pair hot, whatever the target
pub a_ghost_comes_back_hot
    : Writes value_rules (equal 2) 2 insertion
    (record (empty_state 2 1 1) { hot = hot_item 1 1 0 ∷ []; ghosts = 2 ∷ [] }) 1 [] None
    above_target
a_ghost_comes_back_hot =
    Writes.admitted [] _ 1 None _ (ChecksAdmission.is_light (lit≤ tt))
    (WritesAdmitted.inserts_over_ghost [] [] _ _ refl
    (record {
      keys = record { items = record { hot = (refl, tt); cold = tt; still = tt }; loading = tt };
      split = refl;
    })
    (EvictsToCapacity.has_room _ (lit≤ tt)))

-- so the hot ring leaves no room
pub a_hot_ring_above_its_target
    : LosesOne above_target
    (record (empty_state 2 1 1) { hot = hot_item 2 1 0 ∷ []; cold = cold_item 5 1 0 ∷ [] })
a_hot_ring_above_its_target = record {
  step =
      Writes.admitted [] _ 1 None _ (ChecksAdmission.is_light (lit≤ tt))
      (WritesAdmitted.inserts_new _ _ refl
      (record {
        keys = record {
          items = record { hot = (refl, (refl, tt)); cold = tt; still = tt };
          loading = tt;
        };
        ghosts = tt;
      })
      (EvictsToCapacity.goes_on _ _ _ (BeforeEvict 1 1 1 ∷ EvictHot 1 1 ∷ []) [] (lit< tt)
      (AdvancesCold.passes_all [] true _ _ tt tt
      (AdvancesHot.evicts _ [] (hot_item 1 1 0) (hot_item 2 1 0 ∷ []) _ _
      (untouched (hot_item 1 1 0 ∷ hot_item 2 1 0 ∷ [])) refl
      (record { unpinned = refl; earlier = tt; later = ((λ _. lit≤ tt), tt) })
      (EvictsVictim.leaves 1 (lit< tt))))
      (EvictsToCapacity.has_room _ (lit≤ tt))));
  loses = λ keeps. omega (arith, ap first_key keeps.kept);
}
