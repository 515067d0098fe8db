-- Values that fit their keys, as a lifecycle says it.
use Rattle.std.specs.List.{AllByRecursion}
use Rattle.quick_cache_model.specs.CacheState.{CacheState, Item}

module _ {K V : Type 0} (fits : K → V → Type 0) where
  -- the item's value fits its key
  abbrev pub FitsIn : Item K V → Type 0
  FitsIn item = fits item.key item.value

  -- the value of each item fits its key
  pub record AllFit (state : CacheState K V) : Type 0 where
    pub hot : AllByRecursion FitsIn state.hot
    pub cold : AllByRecursion FitsIn state.cold
    pub still : AllByRecursion FitsIn state.still
