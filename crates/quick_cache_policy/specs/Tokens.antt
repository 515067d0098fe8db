-- What stands at a token of a cache's lists, and what is left once it goes.
use Rattle.std.specs.Prelude.{◌≡◌, ℕ, false, List, ◌∷◌, ◌++◌}
use Rattle.quick_cache_model.specs.CacheState.{CacheState, Item, Place, items_at, with_items}
use Rattle.quick_cache_model.specs.Removal.{pair_of}
use Rattle.quick_cache_store.specs.Lists.{IsItemOf, without_entry}
use Rattle.quick_cache_policy.specs.declared.contents.Contents.{Contents}

-- one item goes and gives its pair, and nothing else changes
pub record TakesItem {K V : Type 0} (old : CacheState K V) (pair : K × V) (new : CacheState K V)
    : Type 0 where
  pub place : Place
  pub before : List (Item K V)
  pub item : Item K V
  pub after : List (Item K V)
  pub split : items_at place old ≡ before ++ item ∷ after
  pub gives : pair ≡ pair_of item
  pub rest : new ≡ with_items place (before ++ after) old

-- some item has this value
pub record HasValue {K V : Type 0} (state : CacheState K V) (value : V) : Type 0 where
  pub place : Place
  pub before : List (Item K V)
  pub item : Item K V
  pub after : List (Item K V)
  pub split : items_at place state ≡ before ++ item ∷ after
  pub shows : value ≡ item.value

-- the item of this token goes and gives its pair
pub record TakesToken {K V P W A T : Type 0} (old : Contents K V W A T P) (token : ℕ) (pair : K × V)
    (new : Contents K V W A T P) : Type 0 where
  pub item : Item K V
  pub stood : IsItemOf old.lists token item
  pub gives : pair ≡ pair_of item
  pub rest : new ≡ record old { lists = without_entry false token old.lists }
