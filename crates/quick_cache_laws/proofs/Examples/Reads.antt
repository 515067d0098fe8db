-- Look-ups and removal, and the touches that shared readers leave.
use Rattle.std.proofs.Common.{ℕ, [], ◌∷◌, refl, lit<, true, Some, None}
use Rattle.quick_cache_model.specs.CacheState.{empty_state, InHot, InCold}
use Rattle.quick_cache_model.specs.Hooks.{Rules, BeforeEvict, EvictHot}
use Rattle.quick_cache_model.specs.Touches.{ShowsCount}
use Rattle.quick_cache_model.specs.Eviction.{AdvancesHot, EvictsVictim}
use Rattle.quick_cache_model.specs.Lookups.{LooksUp, Sees}
use Rattle.quick_cache_model.specs.Removal.{Removes}
use Rattle.quick_cache_laws.proofs.Examples.Caches.{unit_rules, is, hot_item, cold_item}

-- a look-up marks its item, counts a read of it, and a hit
pub a_lookup_marks_and_counts
    : LooksUp (is 2) (record (empty_state 5 4 2)
    { cold = cold_item 1 10 1 0 ∷ cold_item 2 20 1 1 ∷ [] })
    (λ item. item.value) (Some 20)
    (record (empty_state 5 4 2) {
      cold = cold_item 1 10 1 0 ∷ record (cold_item 2 20 1 2)
          { reads = 1 } ∷ [];
      hits = 1;
    })
a_lookup_marks_and_counts =
    LooksUp.hit InCold (cold_item 1 10 1 0 ∷ []) (cold_item 2 20 1 1) []
    (record { split = refl; passes = refl })

-- a mark that is the greatest stays
pub the_greatest_mark_stays
    : LooksUp (is 1) (record (empty_state 5 4 2) { hot = hot_item 1 10 1 2 ∷ [] })
    (λ item. item.value) (Some 10)
    (record (empty_state 5 4 2) { hot = record (hot_item 1 10 1 2) { reads = 1 } ∷ []; hits = 1 })
the_greatest_mark_stays = LooksUp.hit InHot [] (hot_item 1 10 1 2) []
    (record { split = refl; passes = refl })

-- the greatest mark is the cache's own: where it is 5, a mark of 2 still rises
pub a_mark_rises_to_the_greatest_of_the_cache
    : LooksUp (is 1) (record (empty_state 5 4 2) { hot = hot_item 1 10 1 2 ∷ []; mark_cut = 5 })
    (λ item. item.value) (Some 10)
    (record (empty_state 5 4 2) {
      hot = record (hot_item 1 10 1 3) { reads = 1 } ∷ [];
      mark_cut = 5;
      hits = 1;
    })
a_mark_rises_to_the_greatest_of_the_cache = LooksUp.hit InHot [] (hot_item 1 10 1 2) []
    (record { split = refl; passes = refl })

-- what is shown of an item's reads, as after three look-ups
pub an_item_shows_its_reads
    : Sees (is 1) (record (empty_state 5 4 2)
    { hot = record (hot_item 1 10 1 2) { reads = 3 } ∷ []; hits = 3 })
    (λ item. item.reads) (Some 3)
an_item_shows_its_reads =
    Sees.is_there InHot [] (record (hot_item 1 10 1 2) { reads = 3 }) []
    (record { split = refl; passes = refl })

-- a removal of a key of which only the ghost is left gives nothing, and the ghost goes
pub a_removal_takes_the_ghost
    : Removes (is 4) (record (empty_state {V = ℕ} 5 4 2) { ghosts = 3 ∷ 4 ∷ [] }) 4 None
    (record (empty_state 5 4 2) { ghosts = 3 ∷ [] })
a_removal_takes_the_ghost =
    Removes.of_ghost (3 ∷ []) [] (record {
      keys = record { items = record { hot = tt; cold = tt; still = tt }; loading = tt };
      split = refl;
    })

-- an item that is removed leaves the order of the rest
pub a_removal_keeps_the_order
    : Removes (is 2)
    (record (empty_state 5 4 2) {
      hot = hot_item 1 10 1 0 ∷ hot_item 2 20 1 0 ∷ hot_item 3 30 1 0 ∷
          [];
    })
    2 (Some (2, 20)) (record (empty_state 5 4 2)
    { hot = hot_item 1 10 1 0 ∷ hot_item 3 30 1 0 ∷ [] })
a_removal_keeps_the_order =
    Removes.of_item InHot (hot_item 1 10 1 0 ∷ []) (hot_item 2 20 1 0) (hot_item 3 30 1 0 ∷ [])
    (record { split = refl; passes = refl })

-- the rules of a cache that readers share: a count of touches may be anything
abbrev pub shared_rules : Rules ℕ ℕ
shared_rules = record unit_rules { may_count = λ _. Unit {0} }

-- two items stand alike; a reader touched the first, and so the second is the victim, while the
-- first pays the mark
pub a_touch_of_a_reader_saves_an_item
    : AdvancesHot shared_rules
    (record (empty_state 2 2 1) { hot = hot_item 1 10 1 0 ∷ hot_item 2 20 1 0 ∷ [] }) true
    (BeforeEvict 2 20 20 ∷ EvictHot 2 20 ∷ [])
    (record (empty_state 2 2 1) { hot = record (hot_item 1 10 1 0) { reads = 1 } ∷ [] })
a_touch_of_a_reader_saves_an_item =
    AdvancesHot.evicts (record (hot_item 1 10 1 1) { reads = 1 } ∷ hot_item 2 20 1 0 ∷ [])
    (record (hot_item 1 10 1 1) { reads = 1 } ∷ []) (hot_item 2 20 1 0) [] _ _
    ((1, tt, refl), ((0, tt, refl), tt)) refl
    (record { unpinned = refl; earlier = ((λ _. lit< tt), tt); later = tt })
    (EvictsVictim.leaves 20 (lit< tt))

-- without readers a count is shown as it is
pub a_count_is_shown_as_it_is : ShowsCount unit_rules.may_count 5 5
a_count_is_shown_as_it_is = (0, refl, refl)

-- and with them it may be shown greater
pub a_count_is_shown_with_what_readers_added : ShowsCount shared_rules.may_count 5 8
a_count_is_shown_with_what_readers_added = (3, tt, refl)
