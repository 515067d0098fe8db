-- What a query finds.
use Rattle.std.specs.Prelude.{◌≡◌, ◌≢◌, ℕ, Bool, true, false, List, ◌∷◌, ◌++◌}
use Rattle.std.specs.List.{AllByRecursion}
use Rattle.quick_cache_model.specs.CacheState.{CacheState, Item, LoadingEntry, Place, items_at}

-- what was found, and what stands before and behind it
pub data Found (K V : Type 0) : Type 0 where
  FoundItem : (place : Place) (before : List (Item K V)) (item : Item K V) (after : List (Item K V))
      → Found K V
  FoundLoading : (before : List (LoadingEntry K)) (entry : LoadingEntry K)
      (after : List (LoadingEntry K)) → Found K V
  FoundGhost : (before after : List ℕ) → Found K V
  FoundNothing : Found K V

-- A query is known by the keys that it stands for and by its hash.
module _ {K V : Type 0} (stands_for : K → Bool) where
  -- at the place stands an item whose key the query stands for
  pub record IsItemAt (state : CacheState K V) (place : Place) (before : List (Item K V))
      (item : Item K V) (after : List (Item K V)) : Type 0 where
    pub split : items_at place state ≡ before ++ item ∷ after
    pub passes : stands_for item.key ≡ true

  -- such a key is being loaded
  pub record IsLoadingAt (state : CacheState K V) (before : List (LoadingEntry K))
      (entry : LoadingEntry K) (after : List (LoadingEntry K)) : Type 0 where
    pub split : state.loading ≡ before ++ entry ∷ after
    pub passes : stands_for entry.key ≡ true

  -- no item has such a key
  pub record HasNoItem (state : CacheState K V) : Type 0 where
    pub hot : AllByRecursion (λ item. stands_for item.key ≡ false) state.hot
    pub cold : AllByRecursion (λ item. stands_for item.key ≡ false) state.cold
    pub still : AllByRecursion (λ item. stands_for item.key ≡ false) state.still

  -- no item has such a key, and none is being loaded
  pub record HasNoKey (state : CacheState K V) : Type 0 where
    pub items : HasNoItem state
    pub loading : AllByRecursion (λ entry. stands_for entry.key ≡ false) state.loading

  -- nor is there a ghost of the query's hash
  pub record HasNothing (hash : ℕ) (state : CacheState K V) : Type 0 where
    pub keys : HasNoKey state
    pub ghosts : AllByRecursion (λ ghost_hash. ghost_hash ≢ hash) state.ghosts

  -- no item and no placeholder has such a key, but here is a ghost of the query's hash
  pub record IsGhostAt (hash : ℕ) (state : CacheState K V) (before after : List ℕ) : Type 0 where
    pub keys : HasNoKey state
    pub split : state.ghosts ≡ before ++ hash ∷ after

  -- The item or the loading entry whose key the query stands for; else some ghost of equal hash,
  -- any of several; else nothing. Each call goes by one of these four.
  abbrev pub Finds : ℕ → CacheState K V → Found K V → Type 0
  Finds hash state (FoundItem place before item after) = IsItemAt state place before item after
  Finds hash state (FoundLoading before entry after) = IsLoadingAt state before entry after
  Finds hash state (FoundGhost before after) = IsGhostAt hash state before after
  Finds hash state FoundNothing = HasNothing hash state
