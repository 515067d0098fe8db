-- Values that are written through a reference to an item, and whether there is an item.
use Rattle.std.specs.Prelude.{Bool, true, false, List}
use Rattle.quick_cache_model.specs.CacheState.{CacheState, Item, Place}
use Rattle.quick_cache_model.specs.Hooks.{Rules}
use Rattle.quick_cache_model.specs.Finding.{IsItemAt, HasNoItem}
use Rattle.quick_cache_model.specs.Removal.{reweighed}

module _ {K V : Type 0} (stands_for : K → Bool) (state : CacheState K V) where
  -- whether an item has a key that the query stands for
  pub data TellsItem : Bool → Type 0 where
    is_there : (place : Place) (before : List (Item K V)) (item : Item K V)
        (after : List (Item K V)) → IsItemAt stands_for state place before item after
        → TellsItem true
    is_absent : HasNoItem stands_for state → TellsItem false

module _ {K V : Type 0} (rules : Rules K V) (stands_for : K → Bool) (old : CacheState K V)
    (left : V) where
  -- A value is written through a reference, and its item is weighed anew. Where there is no item,
  -- there is no reference, and nothing is written.
  pub data WritesItem : Bool → CacheState K V → Type 0 where
    written : (place : Place) (before : List (Item K V)) (item : Item K V) (after : List (Item K V))
        → IsItemAt stands_for old place before item after
        → WritesItem true (reweighed rules place before item after left old)
    unwritten : HasNoItem stands_for old → WritesItem false old
