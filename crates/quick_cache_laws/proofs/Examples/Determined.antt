-- States that are valid, and calls that have one outcome alone.
use Rattle.std.proofs.Common.{◌≡◌, ◌≢◌, ℕ, ◌+◌, ◌≤◌, Bool, true, false, List, [], ◌∷◌, refl, lit<, lit≤, arith, None, true≢false}
use Rattle.std.proofs.Common.{if◌then◌else◌, ◌==◌}
use Rattle.quick_cache_model.specs.CacheState.{CacheState, IsValid, empty_state}
use Rattle.quick_cache_model.specs.Hooks.{HookCall, BeforeEvict, EvictHot}
use Rattle.quick_cache_model.specs.Finding.{Finds, FoundGhost}
use Rattle.quick_cache_model.specs.Eviction.{EvictsToCapacity, AdvancesHot, AdvancesCold, EvictsVictim}
use Rattle.quick_cache_model.specs.Lookups.{LooksUp}
use Rattle.quick_cache_laws.proofs.Eviction.OneOutcome.{LeaveSo, one_eviction_to_capacity}
use Rattle.quick_cache_laws.proofs.Examples.Caches.{unit_rules, is, hot_item, cold_item, untouched}
use Rattle.quick_cache_laws.proofs.Examples.LoadingKeys.{cold_entry}

-- a cache with an item of each kind, a placeholder and a ghost
abbrev pub full_state : CacheState ℕ ℕ
full_state = record (empty_state 2 1 1) {
  hot = hot_item 1 10 1 2 ∷ [];
  cold = cold_item 2 20 1 0 ∷ [];
  still = cold_item 3 0 0 1 ∷ [];
  loading = cold_entry 4 6 ∷ [];
  ghosts = 9 ∷ [];
  next_ticket = 7;
}

-- how many of some tests that exclude each other pass
at_most_one
    : (a b c d : Bool) → (a ≡ true → b ≡ true → ⊥) → (a ≡ true → c ≡ true → ⊥)
    → (a ≡ true → d ≡ true → ⊥)
    → (b ≡ true → c ≡ true → ⊥) → (b ≡ true → d ≡ true → ⊥) → (c ≡ true → d ≡ true → ⊥)
    → (if a then 1 else 0) + (if b then 1 else 0) + (if c then 1 else 0) + (if d then 1 else 0) ≤ 1
at_most_one true true _ _ ab _ _ _ _ _ = absurd (ab refl refl)
at_most_one true false true _ _ ac _ _ _ _ = absurd (ac refl refl)
at_most_one true false false true _ _ ad _ _ _ = absurd (ad refl refl)
at_most_one true false false false _ _ _ _ _ _ = lit≤ tt
at_most_one false true true _ _ _ _ bc _ _ = absurd (bc refl refl)
at_most_one false true false true _ _ _ _ bd _ = absurd (bd refl refl)
at_most_one false true false false _ _ _ _ _ _ = lit≤ tt
at_most_one false false true true _ _ _ _ _ cd = absurd (cd refl refl)
at_most_one false false true false _ _ _ _ _ _ = lit≤ tt
at_most_one false false false true _ _ _ _ _ _ = lit≤ tt
at_most_one false false false false _ _ _ _ _ _ = lit≤ tt

at_most_one_alone : (a : Bool) → (if a then 1 else 0) ≤ 1
at_most_one_alone true = lit≤ tt
at_most_one_alone false = lit≤ tt

-- no key is equal to two that differ
apart : (k m n : ℕ) → m ≢ n → (m == k) ≡ true → (n == k) ≡ true → ⊥
apart k m n differ first second = grind (arith, differ, first, second)

pub a_full_state_is_valid : IsValid is full_state
a_full_state_is_valid = record {
  one_entry_a_key = λ k. omega (
    arith,
    at_most_one (1 == k) (2 == k) (3 == k) (4 == k) (apart k 1 2 (λ e. omega (arith, e)))
        (apart k 1 3 (λ e. omega (arith, e))) (apart k 1 4 (λ e. omega (arith, e)))
        (apart k 2 3 (λ e. omega (arith, e)))
        (apart k 2 4 (λ e. omega (arith, e))) (apart k 3 4 (λ e. omega (arith, e))),
  );
  one_entry_a_ticket = λ n. omega (arith, at_most_one_alone (6 == n));
  tickets_given = (lit< tt, tt);
  ghosts_within = lit≤ tt;
  in_hot = (record { weighs = lit< tt; of_queue = refl; marked = lit≤ tt }, tt);
  in_cold = (record { weighs = lit< tt; of_queue = refl; marked = lit≤ tt }, tt);
  in_still = (record { weightless = refl; marked = lit≤ tt }, tt);
}

-- a look-up of an item is no miss
pub a_lookup_of_an_item_is_no_miss
    : (new : CacheState ℕ ℕ) → LooksUp (is 1) full_state (λ item. item.value) None new → ⊥
a_lookup_of_an_item_is_no_miss _ (LooksUp.miss none) = true≢false none.hot.0

-- an item is found before a ghost of its hash
pub an_item_is_found_before_its_ghost
    : Finds (is 1) 1 (record full_state { ghosts = 1 ∷ [] }) (FoundGhost [] []) → ⊥
an_item_is_found_before_its_ghost found = true≢false found.keys.items.hot.0

-- where there is room nothing is evicted
pub room_evicts_nothing
    : (calls : List (HookCall ℕ ℕ)) (new : CacheState ℕ ℕ)
    → EvictsToCapacity unit_rules 0 full_state calls new
    → (calls ≡ []) × (new ≡ full_state)
room_evicts_nothing _ _ (EvictsToCapacity.has_room _ _) = (refl, refl)
room_evicts_nothing _ _ (EvictsToCapacity.gives_up _ _ _ over _) = absurd (omega (arith, over))
room_evicts_nothing _ _ (EvictsToCapacity.goes_on _ _ _ _ _ over _ _) = absurd (omega (arith, over))

-- in the full cache of capacity 1 a need of room has no other outcome than that its marked item
-- goes, as long as `before_evict` leaves values as they are
pub a_marked_item_is_all_that_can_go
    : (calls : List (HookCall ℕ ℕ)) (new : CacheState ℕ ℕ)
    → EvictsToCapacity unit_rules 1 (record (empty_state 1 1 0) { hot = hot_item 1 10 1 1 ∷ [] })
    calls new
    → LeaveSo unit_rules (λ key value. value) calls
    → (calls ≡ BeforeEvict 1 10 10 ∷ EvictHot 1 10 ∷ []) × (new ≡ empty_state 1 1 0)
a_marked_item_is_all_that_can_go calls new evicts so =
    one_eviction_to_capacity unit_rules (λ key value. value) (λ n none. none)
    1 _ calls _ new _ evicts
    (EvictsToCapacity.goes_on _ _ _ (BeforeEvict 1 10 10 ∷ EvictHot 1 10 ∷ []) [] (lit< tt)
    (AdvancesCold.passes_all [] true _ _ tt tt
    (AdvancesHot.evicts _ [] (hot_item 1 10 1 1) [] _ _ (untouched (hot_item 1 10 1 1 ∷ [])) refl
    (record { unpinned = refl; earlier = tt; later = tt }) (EvictsVictim.leaves 10 (lit< tt))))
    (EvictsToCapacity.has_room _ (lit≤ tt))) so (refl, (tt, tt))
