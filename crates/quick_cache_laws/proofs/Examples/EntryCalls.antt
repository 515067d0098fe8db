-- Entry calls: what comes of a callback's choice, and when a replacing call is refused.
use Rattle.std.proofs.Common.{ℕ, [], ◌∷◌, refl, lit<, lit≤, arith}
use Rattle.quick_cache_model.specs.declared.refusal.Refusal.{Refusal}
use Rattle.quick_cache_model.specs.CacheState.{CacheState, empty_state, InHot, InStill}
use Rattle.quick_cache_model.specs.Entries.{ActsOnEntry, Remove, ReplaceWithGuard, Retain, Kept, Removed, Replaced, Refused}
use Rattle.quick_cache_model.specs.Refusals.{last_ticket, MayRefuse}
use Rattle.quick_cache_laws.proofs.Examples.Caches.{digit_rules, is, hot_item}
use Rattle.quick_cache_laws.proofs.Examples.LoadingKeys.{hot_entry}

-- an entry callback writes a heavier value and keeps the item: it is weighed, and the call was a
-- look-up
pub a_kept_entry_is_weighed_and_read
    : ActsOnEntry digit_rules (is 1) (record (empty_state 100 97 50)
    { hot = hot_item 1 5 5 0 ∷ [] })
    (hot_item 1 5 5 0) 11 Retain Kept
    (record (empty_state 100 97 50) {
      hot = record (hot_item 1 11 11 1) { reads = 1 } ∷ [];
      hits =
          1;
    })
a_kept_entry_is_weighed_and_read = ActsOnEntry.kept InHot [] []
    (record { split = refl; passes = refl })

-- one that writes a value of weight 0 and then removes: the ring is begun anew behind the item
-- before the item goes
pub an_entry_emptied_and_removed_restarts_its_ring
    : ActsOnEntry digit_rules (is 2)
    (record (empty_state 100 97 50) {
      hot = hot_item 1 5 5 0 ∷ hot_item 2 5 5 0 ∷ hot_item 3 5 5 0 ∷
          [];
    })
    (hot_item 2 5 5 0) 0 Remove Removed
    (record (empty_state 100 97 50) { hot = hot_item 3 5 5 0 ∷ hot_item 1 5 5 0 ∷ [] })
an_entry_emptied_and_removed_restarts_its_ring =
    ActsOnEntry.removed InHot (hot_item 1 5 5 0 ∷ []) (hot_item 3 5 5 0 ∷ []) InStill [] []
    (record { split = refl; passes = refl }) (record { split = refl; passes = refl })

-- one that replaces leaves a placeholder of the item's queue, with the next ticket, and counts no
-- miss
pub a_replaced_entry_is_being_loaded
    : ActsOnEntry digit_rules (is 1) (record (empty_state 100 97 50)
    { hot = hot_item 1 5 5 2 ∷ []; next_ticket = 7 })
    (hot_item 1 5 5 2) 5 ReplaceWithGuard Replaced
    (record (empty_state 100 97 50) { loading = hot_entry 1 7 ∷ []; next_ticket = 8 })
a_replaced_entry_is_being_loaded =
    ActsOnEntry.replaced InHot [] [] InHot [] [] (record { split = refl; passes = refl })
    (record { split = refl; passes = refl })
    (record { ticket = λ _. lit< tt; slot = λ none. absurd none })

-- one that replaces when the tickets are spent is refused, and the item stays as it was written
pub an_entry_is_refused_once_tickets_are_spent
    : ActsOnEntry digit_rules (is 1) (record (empty_state 100 97 50)
    { hot = hot_item 1 5 5 2 ∷ []; next_ticket = last_ticket })
    (hot_item 1 5 5 2) 7 ReplaceWithGuard (Refused Refusal.TicketsSpent)
    (record (empty_state 100 97 50) { hot = hot_item 1 7 7 2 ∷ []; next_ticket = last_ticket })
an_entry_is_refused_once_tickets_are_spent =
    ActsOnEntry.refused InHot [] [] Refusal.TicketsSpent (record { split = refl; passes = refl })
    (MayRefuse.tickets_spent tt (lit≤ tt))

-- no replacing call is refused for want of a slot: it has the item's
pub no_entry_is_refused_for_slots : (old new : CacheState ℕ ℕ)
    → ActsOnEntry digit_rules (is 1) old (hot_item 1 5 5 2) 5 ReplaceWithGuard
    (Refused Refusal.SlotsFull)
    new
    → ⊥
no_entry_is_refused_for_slots old _
    (ActsOnEntry.refused place before after _ there (MayRefuse.slots_full has needs full)) = needs

-- and with tickets left none is refused for them, as it could always be when the outcome was not
-- told
pub no_entry_is_refused_before_tickets_are_spent : (new : CacheState ℕ ℕ)
    → ActsOnEntry digit_rules (is 1)
    (record (empty_state 100 97 50) { hot = hot_item 1 5 5 2 ∷ []; next_ticket = 7 })
    (hot_item 1 5 5 2) 5 ReplaceWithGuard (Refused Refusal.TicketsSpent) new → ⊥
no_entry_is_refused_before_tickets_are_spent _
    (ActsOnEntry.refused place before after _ there (MayRefuse.tickets_spent needs spent)) =
    omega (arith, spent)
