-- What the callback of an entry call does to an item.
use Rattle.std.specs.Prelude.{Bool, List, ◌++◌}
use Rattle.quick_cache_model.specs.declared.refusal.Refusal.{Refusal}
use Rattle.quick_cache_model.specs.CacheState.{CacheState, Item, Place, with_items}
use Rattle.quick_cache_model.specs.Hooks.{Rules}
use Rattle.quick_cache_model.specs.Finding.{IsItemAt}
use Rattle.quick_cache_model.specs.Lookups.{looked_up, after_hit}
use Rattle.quick_cache_model.specs.Placeholders.{with_placeholder}
use Rattle.quick_cache_model.specs.Refusals.{IsProvided, MayRefuse, needs_of_replacement}
use Rattle.quick_cache_model.specs.Removal.{weighed, reweighed}

-- what the callback chose, once it had written the value
pub data EntryChoice : Type 0 where
  Retain : EntryChoice
  Remove : EntryChoice
  ReplaceWithGuard : EntryChoice

-- what came of it
pub data EntryOutcome : Type 0 where
  Kept : EntryOutcome
  Removed : EntryOutcome
  Replaced : EntryOutcome
  Refused : (refusal : Refusal) → EntryOutcome

-- what comes of a choice where nothing ran out
abbrev pub outcome_of : EntryChoice → EntryOutcome
outcome_of Retain = Kept
outcome_of Remove = Removed
outcome_of ReplaceWithGuard = Replaced

module _ {K V : Type 0} (rules : Rules K V) (stands_for : K → Bool) where
  -- The callback left this value at the item, which is weighed anew before all else. A kept item
  -- was looked up. A removed one is taken out. One that is replaced leaves a placeholder with its
  -- key and its queue; that is no miss. A replacing call is refused for want of a ticket or of
  -- memory alone, and then leaves the item as it was written.
  pub data ActsOnEntry (old : CacheState K V) (item : Item K V) (left : V)
      : EntryChoice → EntryOutcome → CacheState K V → Type 0 where
    kept : (place : Place) (before after : List (Item K V))
        → IsItemAt stands_for old place before item after
        → ActsOnEntry old item left Retain Kept
        (after_hit (reweighed rules place before (looked_up old.mark_cut item) after left old))
    removed : (place : Place) (before after : List (Item K V))
        (now : Place) (front back : List (Item K V))
        → IsItemAt stands_for old place before item after
        → IsItemAt stands_for (reweighed rules place before item after left old)
        now front (weighed rules item left) back
        → ActsOnEntry old item left Remove Removed
        (with_items now (front ++ back) (reweighed rules place before item after left old))
    replaced : (place : Place) (before after : List (Item K V))
        (now : Place) (front back : List (Item K V))
        → IsItemAt stands_for old place before item after
        → IsItemAt stands_for (reweighed rules place before item after left old)
        now front (weighed rules item left) back
        → IsProvided needs_of_replacement old
        → ActsOnEntry old item left ReplaceWithGuard Replaced
        (with_placeholder item.key item.queue
        (with_items now (front ++ back) (reweighed rules place before item after left old)))
    refused : (place : Place) (before after : List (Item K V)) (refusal : Refusal)
        → IsItemAt stands_for old place before item after
        → MayRefuse needs_of_replacement old refusal
        → ActsOnEntry old item left ReplaceWithGuard (Refused refusal)
        (reweighed rules place before item after left old)
