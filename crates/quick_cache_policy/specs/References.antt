-- Values that are written where they stand, and items that are weighed anew.
use Rattle.std.specs.Prelude.{◌≡◌, ℕ, ◌+◌, Bool, true, false, List, Some, None, map, count_by, if◌then◌else◌}
use Rattle.quick_cache_model.specs.CacheState.{CacheState, Item, Place, UpToOrder}
use Rattle.quick_cache_model.specs.Finding.{IsItemAt}
use Rattle.quick_cache_model.specs.Hooks.{Rules}
use Rattle.quick_cache_model.specs.Lookups.{LooksUp}
use Rattle.quick_cache_model.specs.Removal.{reweighed}

module _ {K V : Type 0} (stands_for : K → Bool) where
  -- how many items the query stands for
  abbrev pub count_under : CacheState K V → ℕ
  count_under state =
      count_by (λ item. stands_for item.key) state.hot
      + count_by (λ item. stands_for item.key) state.cold
      + count_by (λ item. stands_for item.key) state.still

  -- the value is that of the item under the query
  abbrev pub IsValueUnder : CacheState K V → V → Type 0
  IsValueUnder state value = (place : Place) (before : List (Item K V)) (item : Item K V)
      (after : List (Item K V)) → IsItemAt stands_for state place before item after
      → value ≡ item.value

  -- a look-up, of which is told whether an item was found
  abbrev pub NotesLookUp : (old : CacheState K V) → Bool → (new : CacheState K V) → Type 0
  NotesLookUp old true new =
      (seen : V) × UpToOrder (LooksUp stands_for old (λ item. item.value) (Some seen)) new
  NotesLookUp old false new = UpToOrder (LooksUp stands_for old (λ item. item.value) None) new

  -- the item with this value, if the query stands for its key
  abbrev pub valued : V → Item K V → Item K V
  valued value item = if stands_for item.key then record item { value = value } else item

  -- the state once the item under the query has this value, and the weight that it had
  abbrev pub with_value_under : V → CacheState K V → CacheState K V
  with_value_under value state = record state {
    hot = map (valued value) state.hot;
    cold = map (valued value) state.cold;
    still = map (valued value) state.still;
  }

  -- the item under the query was weighed anew: it has the value that it had
  pub record ReweighsUnder (rules : Rules K V) (old new : CacheState K V) : Type 0 where
    pub place : Place
    pub before : List (Item K V)
    pub item : Item K V
    pub after : List (Item K V)
    pub at : IsItemAt stands_for old place before item after
    pub weighs : UpToOrder
        (λ state. state ≡ reweighed rules place before item after item.value old) new
