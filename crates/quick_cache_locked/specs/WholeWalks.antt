-- Walks over a shard by the calls of its lock, with any calls between the steps. They are told of one
-- key that stays.
use Rattle.std.specs.Prelude.{◌≡◌, ℕ, ◌<◌, Bool, true, false, List, [], ◌∷◌, Some, None, Ok, Err}
use Rattle.std.specs.Int.NonZero.{non_zero_u32_get}
use Rattle.std.specs.declared.num.NonZeroU32.{NonZeroU32 as Token}
use Rattle.quick_cache_model.specs.declared.refusal.Refusal.{Refusal}
use Rattle.quick_cache_shard.specs.PlaceWalks.{HasKey}
use Rattle.quick_cache_shard.specs.Shard.{Shard, KeepsPlaces}
use Rattle.quick_cache_locked.specs.Walks.{ShowsNext, TakesNext}

module _ {K V We B L : Type 0} (equal : K → K → Bool) (key : K) where
  -- an item of the key stands in the shard
  abbrev pub Stays : Shard K V We B L → Type 0
  Stays shard = HasKey equal key shard.places

  -- and its token is above that one
  pub record IsAhead (shard : Shard K V We B L) (after : ℕ) : Type 0 where
    pub stays : Stays shard
    pub above : after < stays.place.0

  -- What a walk shows from behind a token to its end, while the key is there all along: it is at its
  -- end; or it shows the next item; or a clone of that was refused, and it tries again; or another
  -- call comes between.
  pub data WalkShows (key_clone : K → K → Type 0) (is_clone : V → V → Type 0)
      : (now : Shard K V We B L) (after : ℕ) (shown : List (Token × K × V)) → Type 0 where
    ends : (now : Shard K V We B L) (after : ℕ) → Stays now
        → ShowsNext now after key_clone is_clone (Ok None)
        → WalkShows key_clone is_clone now after []
    shows : (now : Shard K V We B L) (after : ℕ) (item : Token × K × V)
        (shown : List (Token × K × V)) → Stays now
        → ShowsNext now after key_clone is_clone (Ok (Some item))
        → WalkShows key_clone is_clone now (non_zero_u32_get item.0) shown
        → WalkShows key_clone is_clone now after (item ∷ shown)
    refuses : (now : Shard K V We B L) (after : ℕ) (refusal : Refusal)
        (shown : List (Token × K × V)) → Stays now
        → ShowsNext now after key_clone is_clone (Err refusal)
        → WalkShows key_clone is_clone now after shown
        → WalkShows key_clone is_clone now after shown
    goes_between : (now next : Shard K V We B L) (after : ℕ) (shown : List (Token × K × V))
        → Stays now → KeepsPlaces equal now.places next.places
        → WalkShows key_clone is_clone next after shown
        → WalkShows key_clone is_clone now after shown

  -- What a drain takes from behind a token to its end, or until it takes the key, which is there
  -- until then.
  pub data DrainTakes : (now : Shard K V We B L) (after : ℕ) (taken : List (Token × K × V)) → Type 0
    where
      ends : (now : Shard K V We B L) (after : ℕ) → Stays now → TakesNext now after None now
          → DrainTakes now after []
      takes_it : (now next : Shard K V We B L) (after : ℕ) (item : Token × K × V) → Stays now
          → TakesNext now after (Some item) next → equal key item.1 ≡ true
          → DrainTakes now after (item ∷ [])
      takes : (now next : Shard K V We B L) (after : ℕ) (item : Token × K × V)
          (taken : List (Token × K × V)) → Stays now → TakesNext now after (Some item) next
          → equal key item.1 ≡ false → DrainTakes next (non_zero_u32_get item.0) taken
          → DrainTakes now after (item ∷ taken)
      goes_between : (now next : Shard K V We B L) (after : ℕ) (taken : List (Token × K × V))
          → Stays now → KeepsPlaces equal now.places next.places
          → DrainTakes next after taken → DrainTakes now after taken
