-- Many keys that are answered at once.
use Rattle.std.specs.Prelude.{◌≡◌, List, [], ◌∷◌, Option, Some, None, Result, Ok, Err, IfSome}
use Rattle.std.specs.List.{AllZip}
use Rattle.quick_cache_expiring.specs.declared.loaded.Loaded.{Loaded}

-- the keys of which nothing was found, in their order
abbrev pub missing : {K T : Type 0} → List K → List (Option T) → List K
missing [] found = []
missing (key ∷ keys) [] = []
missing (key ∷ keys) (None ∷ found) = key ∷ missing keys found
missing (key ∷ keys) (Some value ∷ found) = missing keys found

-- what was found, and in the place of each that was not the next that was loaded
abbrev pub filled : {V : Type 0} → List (Option (Loaded V)) → List V → List V
filled [] loaded = []
filled (Some found ∷ rest) loaded = found.value ∷ filled rest loaded
filled (None ∷ rest) [] = filled rest []
filled (None ∷ rest) (value ∷ loaded) = value ∷ filled rest loaded

module _ {V E W : Type 0} (items : W → List V) where
  -- where no key is asked for nothing is loaded, and else what a call gave for these keys
  abbrev pub LoadsAll : {K : Type 0} → (calls : List K → Result W E → Type 0) → (asked : List K)
      → Result W E → Type 0
  LoadsAll calls [] (Ok loaded) = items loaded ≡ []
  LoadsAll calls [] (Err error) = ⊥
  LoadsAll calls (key ∷ keys) loaded = calls (key ∷ keys) loaded

  -- what was found and what was loaded are the values, or the load failed so
  abbrev pub FillsAll : List (Option (Loaded V)) → (loaded : Result W E) → Result W E → Type 0
  FillsAll found (Ok loaded) (Ok values) = items values ≡ filled found (items loaded)
  FillsAll found (Err error) (Err told) = told ≡ error
  FillsAll found loaded answer = ⊥

  -- Of each key what serves was found, or nothing. The keys of which nothing was, as clones of them
  -- and in their order, were loaded by one call, or by none where there was no such key.
  pub record LoadsMany {K : Type 0} (is_clone : K → K → Type 0) (serves : K → V → Type 0)
      (calls : List K → Result W E → Type 0) (keys : List K) (answer : Result W E) : Type 0 where
    pub found : List (Option (Loaded V))
    pub serve : AllZip (λ key it. IfSome it (λ loaded. serves key loaded.value)) keys found
    pub asked : List K
    pub copies : AllZip is_clone (missing keys found) asked
    pub loaded : Result W E
    pub loads : LoadsAll calls asked loaded
    pub fills : FillsAll found loaded answer
