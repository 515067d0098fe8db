-- One step of a walk over a shard behind its lock.
use Rattle.std.specs.Prelude.{◌≡◌, ℕ, Option, Some, None, Result, Ok, Err, MatchOption}
use Rattle.std.specs.List.{Contains}
use Rattle.std.specs.Int.NonZero.{non_zero_u32_get}
use Rattle.std.specs.declared.num.NonZeroU32.{NonZeroU32 as Token}
use Rattle.quick_cache_model.specs.declared.refusal.Refusal.{Refusal}
use Rattle.quick_cache_model.specs.CacheState.{Item}
use Rattle.quick_cache_shard.specs.PlaceWalks.{IsNextPlace, EndsAt}
use Rattle.quick_cache_shard.specs.Shard.{Shard, LeavesPlace, residents}

module _ {K V We B L : Type 0} (shard : Shard K V We B L) (after : ℕ) where
  module _ (key_clone : K → K → Type 0) (is_clone : V → V → Type 0) where
    -- the token, and clones of the key and the value, of the item of the least token behind
    pub record ClonesNext (shown : Token × K × V) : Type 0 where
      pub item : Item K V
      pub next : IsNextPlace shard.places after (non_zero_u32_get shown.0, item.key)
      pub there : Contains (residents shard.state) item
      pub key : key_clone item.key shown.1
      pub value : is_clone item.value shown.2

    -- the next item is shown, or none is left, or a clone of the next one failed
    abbrev pub ShowsNext : Result (Option (Token × K × V)) Refusal → Type 0
    ShowsNext (Ok None) = EndsAt shard.places after
    ShowsNext (Ok (Some shown)) = ClonesNext shown
    ShowsNext (Err refusal) = refusal ≡ Refusal.Memory

  -- the next item was taken out, or none was left and nothing changed
  abbrev pub TakesNext : Option (Token × K × V) → Shard K V We B L → Type 0
  TakesNext taken new = MatchOption taken
      (EndsAt shard.places after × (new ≡ shard))
      (λ gone. IsNextPlace shard.places after (non_zero_u32_get gone.0, gone.1)
      × LeavesPlace shard (non_zero_u32_get gone.0) gone.1 new)
