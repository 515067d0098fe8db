-- Laws of existence: an item that is there can be acted on, whatever the callback leaves and
-- chooses.
use Rattle.std.proofs.Common.{◌≡◌, ◌==◌, Bool, true, false, if◌then◌else◌, List, [], ◌∷◌, ◌++◌, refl, ◌≤◌, arith}
use Rattle.quick_cache_model.specs.CacheState.{CacheState, Item, Place, InHot, InCold, InStill, items_at, with_items, place_of_item}
use Rattle.quick_cache_model.specs.CacheState.{entered, rewritten, restarted_behind}
use Rattle.quick_cache_model.specs.Hooks.{Rules}
use Rattle.quick_cache_model.specs.Finding.{IsItemAt}
use Rattle.quick_cache_model.specs.Placeholders.{with_placeholder}
use Rattle.quick_cache_model.specs.Lookups.{looked_up, after_hit}
use Rattle.quick_cache_model.specs.Removal.{weighed, reweighed}
use Rattle.quick_cache_model.specs.Entries.{EntryChoice, Retain, Remove, ReplaceWithGuard, EntryOutcome, Refused, outcome_of, ActsOnEntry}
use Rattle.quick_cache_model.specs.Refusals.{HasTicket, last_ticket, MayRefuse, needs_of_replacement}
use Rattle.quick_cache_model.specs.declared.refusal.Refusal.{Refusal}

-- where an item stands once it was written over another
pub record StandsAt {K V : Type 0} (stands_for : K → Bool) (state : CacheState K V)
    (item : Item K V) : Type 0 where
  pub place : Place
  pub before : List (Item K V)
  pub after : List (Item K V)
  pub there : IsItemAt stands_for state place before item after

module _ {K V : Type 0} (stands_for : K → Bool) where
  put-stands : (place : Place) (item : Item K V) (state : CacheState K V)
      → items_at place (with_items place (items_at place state ++ item ∷ []) state)
      ≡ items_at place state ++ item ∷ []
  put-stands InHot item state = refl
  put-stands InCold item state = refl
  put-stands InStill item state = refl

  -- an item that entered stands last at its place
  pub entered-stands : (item : Item K V) (state : CacheState K V) → stands_for item.key ≡ true
      → StandsAt stands_for (entered item state) item
  entered-stands item state passes = record {
    place = place_of_item item;
    before = items_at (place_of_item item) state;
    after = [];
    there = record { split = put-stands (place_of_item item) item state; passes = passes };
  }

  -- one that was written over another stands somewhere
  pub rewritten-stands : (place : Place) (before : List (Item K V)) (item : Item K V)
      (after : List (Item K V)) (state : CacheState K V) → stands_for item.key ≡ true
      → StandsAt stands_for (rewritten place before item after state) item
  rewritten-stands InStill before item after state passes = go (item.weight == 0)
    where
      go : (b : Bool) → StandsAt stands_for (if b then with_items InStill (before ++ item ∷ after)
          state else entered item (with_items InStill (before ++ after) state)) item
      go true = record {
        place = InStill;
        before = before;
        after = after;
        there =
            record { split = refl; passes = passes };
      }
      go false = entered-stands item (record state { still = before ++ after }) passes
  rewritten-stands InHot before item after state passes = go (item.weight == 0)
    where
      go : (b : Bool) → StandsAt stands_for (if b then entered item
          (with_items InHot (restarted_behind before after) state) else with_items InHot
          (before ++ item ∷ after) state) item
      go true = entered-stands item (record state { hot = after ++ before }) passes
      go false = record {
        place = InHot;
        before = before;
        after = after;
        there =
            record { split = refl; passes = passes };
      }
  rewritten-stands InCold before item after state passes = go (item.weight == 0)
    where
      go : (b : Bool) → StandsAt stands_for (if b then entered item
          (with_items InCold (restarted_behind before after) state) else with_items InCold
          (before ++ item ∷ after) state) item
      go true = entered-stands item (record state { cold = after ++ before }) passes
      go false = record {
        place = InCold;
        before = before;
        after = after;
        there =
            record { split = refl; passes = passes };
      }

  -- while there are tickets, an item that is there can be acted on as the callback chose
  pub ActsOnEntry-exists : (rules : Rules K V) (old : CacheState K V) (place : Place)
      (before : List (Item K V)) (item : Item K V) (after : List (Item K V))
      → IsItemAt stands_for old place before item after → HasTicket old
      → (left : V) (choice : EntryChoice) → (new : CacheState K V)
      × ActsOnEntry rules stands_for old item left choice (outcome_of choice) new
  ActsOnEntry-exists rules old place before item after there ticket left Retain = (
    after_hit (reweighed rules place before (looked_up old.mark_cut item) after left old),
    ActsOnEntry.kept place before after there,
  )
  ActsOnEntry-exists rules old place before item after there ticket left Remove =
      let now = rewritten-stands place before (weighed rules item left) after old there.passes in (
        with_items now.place (now.before ++ now.after)
            (reweighed rules place before item after left old),
        ActsOnEntry.removed place before after
            now.place now.before now.after there now.there,
      )
  ActsOnEntry-exists rules old place before item after there ticket left ReplaceWithGuard =
      let now = rewritten-stands place before (weighed rules item left) after old there.passes in (
        with_placeholder item.key item.queue (with_items now.place (now.before ++ now.after)
            (reweighed rules place before item after left old)),
        ActsOnEntry.replaced place before after now.place now.before now.after there now.there
            (record { ticket = λ _. ticket; slot = λ none. absurd none }),
      )

  -- while there are tickets, nothing but want of memory refuses
  pub ActsOnEntry-memory : (rules : Rules K V) (old : CacheState K V) (item : Item K V) (left : V)
      (choice : EntryChoice) (refusal : Refusal) (new : CacheState K V)
      → ActsOnEntry rules stands_for old item left choice (Refused refusal) new → HasTicket old
      → refusal ≡ Refusal.Memory
  ActsOnEntry-memory rules old item left _ _ _
      (ActsOnEntry.refused place before after refusal there may) ticket = cause refusal may
    where
      cause : (why : Refusal) → MayRefuse needs_of_replacement old why → why ≡ Refusal.Memory
      cause _ (MayRefuse.tickets_spent needs spent) = absurd (omega (arith, ticket))
      cause _ (MayRefuse.slots_full has needs full) = absurd needs
      cause _ (MayRefuse.memory_refused provided needs) = refl

  -- once the tickets are spent, no call replaces
  pub ActsOnEntry-tickets : (rules : Rules K V) (old : CacheState K V) (item : Item K V) (left : V)
      (outcome : EntryOutcome) (new : CacheState K V)
      → ActsOnEntry rules stands_for old item left ReplaceWithGuard outcome new
      → last_ticket ≤ old.next_ticket → outcome ≡ Refused Refusal.TicketsSpent
  ActsOnEntry-tickets rules old item left _ _
      (ActsOnEntry.replaced place before after now front back there written provided) spent =
      let ticket = provided.ticket tt in absurd (omega (arith, ticket))
  ActsOnEntry-tickets rules old item left _ _
      (ActsOnEntry.refused place before after refusal there may) spent = cause refusal may
    where
      cause : (why : Refusal) → MayRefuse needs_of_replacement old why
          → Refused why ≡ Refused Refusal.TicketsSpent
      cause _ (MayRefuse.tickets_spent needs none) = refl
      cause _ (MayRefuse.slots_full has needs full) = absurd needs
      cause _ (MayRefuse.memory_refused provided needs) =
          let ticket = provided.ticket tt in absurd (omega (arith, ticket))
