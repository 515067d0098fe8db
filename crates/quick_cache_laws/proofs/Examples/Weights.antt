-- The weight that a write leaves, and what becomes of a pair that passed its check.
use Rattle.std.proofs.Common.{◌≡◌, ℕ, List, [], ◌∷◌, refl, sym, lit<, lit≤, arith, None, false, true≢false}
use Rattle.quick_cache_model.specs.CacheState.{empty_state}
use Rattle.quick_cache_model.specs.Hooks.{HookCall, BeforeEvict}
use Rattle.quick_cache_model.specs.Eviction.{EvictsToCapacity, AdvancesHot, AdvancesCold}
use Rattle.quick_cache_model.specs.Admission.{ChecksAdmission, PassesCheck}
use Rattle.quick_cache_model.specs.Writes.{Insert, WritesAdmitted}
use Rattle.quick_cache_laws.specs.Admitted.{unpinned_weight, HoldsPair}
use Rattle.quick_cache_laws.proofs.Admitted.Resident.{Writes-holds}
use Rattle.quick_cache_laws.proofs.Examples.Caches.{digit_rules, is, hot_item, cold_item}
use Rattle.quick_cache_laws.proofs.Examples.Pinned.{pinned_items_keep_the_cache_over_its_capacity}

-- Were a pair of weight 5 admitted to a cache of capacity 1, it would be written, and weigh too
-- much.
pub an_admitted_pair_may_be_too_heavy
    : WritesAdmitted digit_rules (is 1) 1 Insert (empty_state 1 1 0) 5 [] None
    (record (empty_state 1 1 0) { cold = cold_item 1 5 5 0 ∷ [] })
an_admitted_pair_may_be_too_heavy =
    WritesAdmitted.inserts_new _ _ refl
    (record {
      keys = record { items = record { hot = tt; cold = tt; still = tt }; loading = tt };
      ghosts = tt;
    })
    (EvictsToCapacity.gives_up _ _ _ (lit< tt)
    (AdvancesCold.passes_all [] false _ _ tt tt (AdvancesHot.all_pinned [] tt tt)))

-- But no check admits it: the target is at most the capacity.
pub no_check_admits_it : (calls : List (HookCall ℕ ℕ)) → PassesCheck digit_rules 1 1 5 calls 5 → ⊥
no_check_admits_it _ (PassesCheck.passes _ rest _ (ChecksAdmission.is_light light)) =
    omega (arith, light)
no_check_admits_it _ (PassesCheck.passes _ rest _ (ChecksAdmission.is_pinned heavy pins)) =
    true≢false (sym pins)
no_check_admits_it _ (PassesCheck.passes _ rest _
    (ChecksAdmission.was_lightened _ heavy free light))
    = omega (arith, light)

-- a pair that `before_evict` lightened passes, with the value that it left
pub a_lightened_pair_passes : PassesCheck digit_rules 3 1 5 (BeforeEvict 1 5 2 ∷ []) 2
a_lightened_pair_passes =
    PassesCheck.passes (BeforeEvict 1 5 2 ∷ []) [] 2
    (ChecksAdmission.was_lightened 2 (lit< tt) refl (lit≤ tt))

-- beside two pinned items, the pair just written is all the weight that counts against the capacity
pub pinned_items_do_not_count
    : unpinned_weight digit_rules (record (empty_state 2 1 1) {
      hot = hot_item 1 101 1 0 ∷ [];
      cold = cold_item 2 101 1 0 ∷ cold_item 3 1 1 0 ∷ [];
    }) ≡ 1
pinned_items_do_not_count = refl

-- and it is there, though eviction could free no room
pub the_inserted_pair_is_there
    : HoldsPair 3 1 (record (empty_state 2 1 1) {
      hot = hot_item 1 101 1 0 ∷ [];
      cold = cold_item 2 101 1 0 ∷ cold_item 3 1 1 0 ∷ [];
    })
the_inserted_pair_is_there =
    (Writes-holds digit_rules (is 3) 3
    (record (empty_state 2 1 1) { hot = hot_item 1 101 1 1 ∷ []; cold = cold_item 2 101 1 0 ∷ [] })
    _ 1 1 [] None pinned_items_keep_the_cache_over_its_capacity
    (record {
      keys = record {
        items = record { hot = (refl, tt); cold = (refl, tt); still = tt };
        loading = tt;
      };
      ghosts = tt;
    })
    (PassesCheck.passes [] [] 1 (ChecksAdmission.is_light (lit≤ tt)))).1
