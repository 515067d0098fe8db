-- Laws of walks.
use Rattle.std.specs.Prelude.{◌≡◌, ℕ, Bool, List}
use Rattle.std.specs.List.{count_by}
use Rattle.std.specs.declared.num.NonZeroU32.{NonZeroU32 as Token}
use Rattle.quick_cache_shard.specs.PlaceWalks.{ArePlaces}
use Rattle.quick_cache_shard.specs.Shard.{KeepsPlaces, LosesOnly, Shard}
use Rattle.quick_cache_locked.specs.WholeWalks.{DrainTakes, IsAhead, WalkShows}

module _ (K V We B L : Type 0) (equal : K → K → Bool) where
  -- a whole walk shows a key that stays all along exactly once
  abbrev pub ShowsOnce : (key_clone : K → K → Type 0) (is_clone : V → V → Type 0) → Type 0
  ShowsOnce key_clone is_clone = (key : K) (now : Shard K V We B L) (shown : List (Token × K × V))
      → IsAhead equal key now 0 → WalkShows equal key key_clone is_clone now 0 shown
      → count_by (λ item. equal key item.1) shown ≡ 1

  -- a whole drain takes a key that stays until it is taken
  abbrev pub TakesOnce : Type 0
  TakesOnce = (key : K) (now : Shard K V We B L) (taken : List (Token × K × V))
      → IsAhead equal key now 0 → DrainTakes equal key now 0 taken
      → count_by (λ item. equal key item.1) taken ≡ 1

-- a call that only takes items out moves none that stays
abbrev pub LosingMovesNone : (K : Type 0) → (equal : K → K → Bool) → Type 0
LosingMovesNone K equal = (old new : List (ℕ × K)) → ArePlaces equal old → LosesOnly old new
    → KeepsPlaces equal old new
