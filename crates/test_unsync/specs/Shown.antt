-- What a look-up shows.
use Rattle.std.specs.Prelude.{◌≡◌, Bool, List, string_bytes}
use Rattle.std.specs.declared.string.String.{String}
use Rattle.quick_cache_model.specs.CacheState.{CacheState, Item, Place}
use Rattle.quick_cache_model.specs.Finding.{IsItemAt}

-- a text that is shown has the bytes of the text that it is a clone of
abbrev pub HasSameBytes : {A : Type 0} → String A → String A → Type 0
HasSameBytes text shown = string_bytes shown ≡ string_bytes text

-- this is shown for the value of an item whose key the query stands for
pub record IsShownUnder {K V : Type 0} (stands_for : K → Bool) (shows : V → V → Type 0)
    (state : CacheState K V) (shown : V) : Type 0 where
  pub place : Place
  pub before : List (Item K V)
  pub item : Item K V
  pub after : List (Item K V)
  pub at : IsItemAt stands_for state place before item after
  pub is_shown : shows item.value shown
