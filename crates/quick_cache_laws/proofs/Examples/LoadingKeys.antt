-- Placeholders: made, met, filled and given up.
use Rattle.std.proofs.Common.{ℕ, [], ◌∷◌, ◌≡◌, refl, sym, ap, ◌∙◌, lit<, lit≤, ◌==◌, ◌/◌, true, false, true≢false, Some, None}
use Rattle.std.proofs.lemmas.Bool.{eqb-true, eq-eqb}
use Rattle.quick_cache_model.specs.declared.queue.Queue.{Queue}
use Rattle.quick_cache_model.specs.CacheState.{CacheState, LoadingEntry, empty_state}
use Rattle.quick_cache_model.specs.Hooks.{BeforeEvict, EvictHot, EvictCold}
use Rattle.quick_cache_model.specs.Eviction.{EvictsToCapacity, AdvancesHot, AdvancesCold, EvictsVictim}
use Rattle.quick_cache_model.specs.Admission.{ChecksAdmission}
use Rattle.quick_cache_model.specs.Writes.{Insert, Writes, WritesAdmitted}
use Rattle.quick_cache_model.specs.Placeholders.{MakesPlaceholder, MeetsPlaceholder, GivesUpPlaceholder, FillsPlaceholder, MakesRoomFor}
use Rattle.quick_cache_laws.specs.Laws.{IsQuery, IsQueryOf}
use Rattle.quick_cache_laws.proofs.Examples.Caches.{unit_rules, digit_rules, is, hot_item, cold_item, untouched}

-- the placeholder of a key
abbrev pub hot_entry : (key ticket : ℕ) → LoadingEntry ℕ
hot_entry key ticket = record { key = key; queue = Queue.Hot; ticket = ticket }

abbrev pub cold_entry : (key ticket : ℕ) → LoadingEntry ℕ
cold_entry key ticket = record { key = key; queue = Queue.Cold; ticket = ticket }

-- a key that is not known gets a cold placeholder, which is a miss
pub an_unknown_key_gets_a_cold_placeholder
    : MakesPlaceholder (is 4) (empty_state {K = ℕ} {V = ℕ} 100 97 50) 4 4
    (record (empty_state 100 97 50) { loading = cold_entry 4 1 ∷ []; misses = 1; next_ticket = 2 })
an_unknown_key_gets_a_cold_placeholder =
    MakesPlaceholder.on_nothing refl
    (record {
      keys = record { items = record { hot = tt; cold = tt; still = tt }; loading = tt };
      ghosts = tt;
    })

-- one whose ghost is known gets a hot one, and the ghost goes
pub a_ghost_gets_a_hot_placeholder
    : MakesPlaceholder (is 4) (record (empty_state {K = ℕ} {V = ℕ} 100 97 50)
    { ghosts = 3 ∷ 4 ∷ 5 ∷ [] }) 4 4
    (record (empty_state 100 97 50) {
      ghosts = 3 ∷ 5 ∷ [];
      loading = hot_entry 4 1 ∷ [];
      misses =
          1;
      next_ticket = 2;
    })
a_ghost_gets_a_hot_placeholder =
    MakesPlaceholder.on_ghost (3 ∷ []) (5 ∷ []) refl
    (record {
      keys = record { items = record { hot = tt; cold = tt; still = tt }; loading = tt };
      split = refl;
    })

-- a query gets no placeholder for a key that it does not stand for
pub no_placeholder_for_another_key
    : (new : CacheState ℕ ℕ) → MakesPlaceholder (is 4) (empty_state 100 97 50) 4 5 new → ⊥
no_placeholder_for_another_key _ (MakesPlaceholder.on_nothing stands _) = true≢false (sym stands)
no_placeholder_for_another_key _ (MakesPlaceholder.on_ghost before after stands _) =
    true≢false (sym stands)

-- a second call for the key meets the placeholder by its ticket, which is a hit
pub a_second_call_meets_the_placeholder
    : MeetsPlaceholder (is 4)
    (record (empty_state {K = ℕ} {V = ℕ} 100 97 50)
    { loading = cold_entry 4 1 ∷ []; misses = 1; next_ticket = 2 }) 1
    (record (empty_state 100 97 50) {
      loading = cold_entry 4 1 ∷ [];
      hits = 1;
      misses =
          1;
      next_ticket = 2;
    })
a_second_call_meets_the_placeholder = MeetsPlaceholder.is_there [] (cold_entry 4 1) []
    (record { split = refl; passes = refl })

-- a loader that fails leaves nothing but the miss: the ticket is not used again
pub a_failed_load_leaves_nothing
    : GivesUpPlaceholder 1
    (record (empty_state {K = ℕ} {V = ℕ} 100 97 50)
    { loading = cold_entry 4 1 ∷ []; misses = 1; next_ticket = 2 })
    (record (empty_state 100 97 50) { misses = 1; next_ticket = 2 })
a_failed_load_leaves_nothing = GivesUpPlaceholder.was_there [] (cold_entry 4 1) []
    (record { split = refl; is_of_ticket = refl })

-- a loaded value that fits the target is hot, though its placeholder was cold
pub a_loaded_value_that_fits_is_hot
    : FillsPlaceholder 2
    (record (empty_state {K = ℕ} {V = ℕ} 100 97 50)
    { loading = cold_entry 4 2 ∷ []; misses = 2; next_ticket = 3 })
    unit_rules false 4 [] None
    (record (empty_state 100 97 50) { hot = hot_item 4 4 1 0 ∷ []; misses = 2; next_ticket = 3 })
a_loaded_value_that_fits_is_hot =
    FillsPlaceholder.fills [] (cold_entry 4 2) [] 4 [] [] _
    (record { split = refl; is_of_ticket = refl })
    (ChecksAdmission.is_light (lit≤ tt))
    (MakesRoomFor.takes_some [] _ (lit< tt) (EvictsToCapacity.has_room _ (lit≤ tt)))

-- one that others waited for is marked; where it does not fit the target, it is of the queue of its
-- placeholder
pub a_value_that_others_waited_for_is_marked
    : FillsPlaceholder 1
    (record (empty_state 2 1 1) {
      hot = hot_item 1 1 1 0 ∷ [];
      loading =
          cold_entry 4 1 ∷ [];
      next_ticket = 2;
    })
    unit_rules true 4 [] None
    (record (empty_state 2 1 1) {
      hot = hot_item 1 1 1 0 ∷ [];
      cold =
          cold_item 4 4 1 1 ∷ [];
      next_ticket = 2;
    })
a_value_that_others_waited_for_is_marked =
    FillsPlaceholder.fills [] (cold_entry 4 1) [] 4 [] [] _
    (record { split = refl; is_of_ticket = refl })
    (ChecksAdmission.is_light (lit≤ tt))
    (MakesRoomFor.takes_some [] _ (lit< tt) (EvictsToCapacity.has_room _ (lit≤ tt)))

-- a loaded value that is too heavy is told to the cold hook, and its placeholder goes
pub a_loaded_value_too_heavy_is_not_kept
    : FillsPlaceholder 1 (record (empty_state 5 4 2)
    { loading = cold_entry 9 1 ∷ []; next_ticket = 2 }) digit_rules
    false 5 (BeforeEvict 9 5 5 ∷ EvictCold 9 5 ∷ []) None
    (record (empty_state 5 4 2) { next_ticket = 2 })
a_loaded_value_too_heavy_is_not_kept =
    FillsPlaceholder.too_heavy [] (cold_entry 9 1) [] 5 (BeforeEvict 9 5 5 ∷ [])
    (record { split = refl; is_of_ticket = refl })
    (ChecksAdmission.is_too_heavy 5 (lit< tt) refl (lit< tt))

-- a placeholder that is gone, as after `clear`, takes no value: it comes back, and nothing changes
pub a_value_for_a_gone_placeholder_comes_back
    : FillsPlaceholder 1 (record (empty_state 8 7 4)
    { hot = hot_item 2 22 1 0 ∷ []; next_ticket = 2 }) unit_rules false
    5 [] (Some 5) (record (empty_state 8 7 4) { hot = hot_item 2 22 1 0 ∷ []; next_ticket = 2 })
a_value_for_a_gone_placeholder_comes_back = FillsPlaceholder.was_gone tt

-- an insert under a key that is being loaded takes the placeholder's queue, and is marked
pub an_insert_takes_the_placeholder_over
    : Writes unit_rules (is 4) 4 Insert
    (record (empty_state 5 4 2) { loading = cold_entry 4 1 ∷ []; next_ticket = 2 }) 40 [] None
    (record (empty_state 5 4 2) { cold = cold_item 4 40 1 1 ∷ []; next_ticket = 2 })
an_insert_takes_the_placeholder_over =
    Writes.admitted [] [] 40 None _ (ChecksAdmission.is_light (lit≤ tt))
    (WritesAdmitted.inserts_over_loading [] (cold_entry 4 1) [] [] _ refl
    (record { split = refl; passes = refl })
    (EvictsToCapacity.has_room _ (lit≤ tt)))

-- a loaded value of weight 0 makes no room, though the cache is above its capacity
pub a_weightless_fill_makes_no_room
    : FillsPlaceholder 1
    (record (empty_state 100 97 50) {
      hot = hot_item 1 60 60 0 ∷ hot_item 2 47 47 0 ∷ [];
      loading = cold_entry 3 1 ∷ [];
      next_ticket = 2;
    })
    digit_rules false 0 [] None
    (record (empty_state 100 97 50) {
      hot = hot_item 1 60 60 0 ∷ hot_item 2 47 47 0 ∷ [];
      still = cold_item 3 0 0 0 ∷ [];
      next_ticket = 2;
    })
a_weightless_fill_makes_no_room =
    FillsPlaceholder.fills [] (cold_entry 3 1) [] 0 [] [] _
    (record { split = refl; is_of_ticket = refl })
    (ChecksAdmission.is_light (lit≤ tt)) (MakesRoomFor.takes_none refl)

-- an insert of weight 0 does make room
pub a_weightless_insert_makes_room
    : Writes digit_rules (is 4) 4 Insert
    (record (empty_state 100 97 50) { hot = hot_item 1 60 60 0 ∷ hot_item 2 47 47 0 ∷ [] }) 0
    (BeforeEvict 1 60 60 ∷ EvictHot 1 60 ∷ []) None
    (record (empty_state 100 97 50) {
      hot = hot_item 2 47 47 0 ∷ [];
      still =
          cold_item 4 0 0 0 ∷ [];
    })
a_weightless_insert_makes_room =
    Writes.admitted [] _ 0 None _ (ChecksAdmission.is_light (lit≤ tt))
    (WritesAdmitted.inserts_new _ _ refl
    (record {
      keys = record {
        items = record { hot = (refl, (refl, tt)); cold = tt; still = tt };
        loading = tt;
      };
      ghosts = tt;
    })
    (EvictsToCapacity.goes_on _ _ _ (BeforeEvict 1 60 60 ∷ EvictHot 1 60 ∷ []) [] (lit< tt)
    (AdvancesCold.passes_all [] true _ _ tt tt
    (AdvancesHot.evicts _ [] (hot_item 1 60 60 0) (hot_item 2 47 47 0 ∷ []) _ _
    (untouched (hot_item 1 60 60 0 ∷ hot_item 2 47 47 0 ∷ [])) refl
    (record { unpinned = refl; earlier = tt; later = ((λ _. lit≤ tt), tt) })
    (EvictsVictim.leaves 60 (lit< tt))))
    (EvictsToCapacity.has_room _ (lit≤ tt))))

-- Keys are equal up to their last bit, as letters are up to their case. A query that stands for one
-- of two such keys alone is lawful, and stands for no key exactly.
pub one_of_two_equal_keys_can_be_asked_for : IsQuery (λ one other. one / 2 == other / 2) (is 4)
one_of_two_equal_keys_can_be_asked_for first second stands also =
    let same : first ≡ second = eqb-true first 4 stands ∙ sym (eqb-true second 4 also) in
    eq-eqb (first / 2) (second / 2) (ap (λ k. k / 2) same)

pub such_a_query_is_not_exact : IsQueryOf (λ one other. one / 2 == other / 2) (is 4) 4 → ⊥
such_a_query_is_not_exact exact = true≢false (sym (exact 5))
