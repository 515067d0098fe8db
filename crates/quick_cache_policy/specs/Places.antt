-- Under which token each item stands, and that an item which stays keeps its token.
use Rattle.std.specs.Prelude.{◌≡◌, ◌⊎◌, ℕ, Bool, true, List, ◌++◌, map}
use Rattle.std.specs.List.{Contains}
use Rattle.quick_cache_store.specs.Lists.{HeldItem, Lists}

-- the token of an item, with its key
abbrev pub place_at : {K V : Type 0} → HeldItem K V → ℕ × K
place_at held = (held.token, held.item.key)

-- those of each item
abbrev pub places_in : {K V : Type 0} → List (HeldItem K V) → List (ℕ × K)
places_in entries = map place_at entries

-- those of all items: of the hot ring, of the cold ring, and of weight 0
abbrev pub places_of : {K V P : Type 0} → Lists K V P → List (ℕ × K)
places_of lists = places_in lists.hot ++ places_in lists.cold ++ places_in lists.still

module _ {K : Type 0} where
  -- what stands somewhere stood there before
  abbrev pub LosesOnly : List (ℕ × K) → List (ℕ × K) → Type 0
  LosesOnly old new = (place : ℕ × K) → Contains new place → Contains old place

  -- an item that is there before and after has the same token
  abbrev pub KeepsPlaces : (equal : K → K → Bool) → List (ℕ × K) → List (ℕ × K) → Type 0
  KeepsPlaces equal old new = (was is : ℕ × K) → Contains old was → Contains new is
      → equal was.1 is.1 ≡ true → is.0 ≡ was.0

  -- A write of a key moves no item: what stands somewhere stood there before, or it is the key, at
  -- the token of an item with an equal key, if there was one.
  abbrev pub WritesPlace : (equal : K → K → Bool) → K → List (ℕ × K) → List (ℕ × K) → Type 0
  WritesPlace equal key old new = (place : ℕ × K) → Contains new place → Contains old place
      ⊎ ((place.1 ≡ key)
      × ((other : ℕ × K) → Contains old other → equal key other.1 ≡ true → other.0 ≡ place.0))
