-- The hottest items of a cache that is divided into shards.
use Rattle.std.specs.Prelude.{◌≡◌, ℕ, Bool, List, take}
use Rattle.std.specs.List.{AllZip}
use Rattle.std.specs.List.Sorted.{IsNonDecreasingBy, IsPermutation}
use Rattle.quick_cache_model.specs.declared.terms.lifecycle.Lifecycle as lifecycle
use Rattle.quick_cache_model.specs.CacheState.{CacheState}
use Rattle.quick_cache_locked.specs.declared.heated.Heated.{Heated}
use Rattle.quick_cache_locked.specs.Hottest.{IsHeatedClone, by_heat, coolness}
use Rattle.quick_cache_sync.specs.InTurn.{ShowInTurn}

-- clones of so many of the hottest items of a state
abbrev pub ShowsHeat : {K V : Type 0} → (key_clone : K → K → Type 0) → (is_clone : V → V → Type 0)
    → (count : ℕ) → CacheState K V → List (Heated K V) → Type 0
ShowsHeat key_clone is_clone count state part =
    AllZip (IsHeatedClone key_clone is_clone) (take count (by_heat state)) part

-- the hottest of what all shards showed, the hottest first
pub record ShowsHottest {K V L S : Type 0} (life : lifecycle.Ghosts L K V S) (equal : K → K → Bool)
    (key_clone : K → K → Type 0) (is_clone : V → V → Type 0) (We B : Type 0) (count : ℕ)
    (shards : ℕ) (given : List (Heated K V)) : Type 0 where
  pub shown : List (Heated K V)
  pub in_turn : ShowInTurn life equal We B (ShowsHeat key_clone is_clone count) shards shown
  pub sorted : List (Heated K V)
  pub same : IsPermutation shown sorted
  pub order : IsNonDecreasingBy coolness sorted
  pub first : given ≡ take count sorted
