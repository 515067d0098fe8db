-- A walk by ascending tokens over a shard that stays as it is.
use Rattle.std.specs.Prelude.{◌≡◌, ℕ, ◌-◌, List, Option, MatchOption}
use Rattle.std.specs.List.{Contains}
use Rattle.std.specs.Int.NonZero.{non_zero_u32_get}
use Rattle.std.specs.Iterator.{Count, at_most}
use Rattle.std.specs.declared.num.NonZeroU32.{NonZeroU32 as Token}
use denote.Ref.{Bor}
use Rattle.quick_cache_model.specs.CacheState.{Item}
pub use Rattle.quick_cache_store.specs.Lists.{number_or_zero}
use Rattle.quick_cache_shard.specs.PlaceWalks.{IsNextPlace, EndsAt}

-- under which token each item stands, the items, and the token behind which the walk goes on
pub record WalkFrom (K V : Type 0) : Type 0 where
  pub places : List (ℕ × K)
  pub residents : List (Item K V)
  pub after : ℕ

module _ {K V : Type 0} (old : WalkFrom K V) where
  -- the item of the least token behind is shown, and the walk goes on behind it
  pub record ShowsNext (given : Token × Bor K × Bor V) (new : WalkFrom K V) : Type 0 where
    pub item : Item K V
    pub next : IsNextPlace old.places old.after (non_zero_u32_get given.0, item.key)
    pub there : Contains old.residents item
    pub key : given.1.now ≡ item.key
    pub value : given.2.now ≡ item.value
    pub goes_on : new ≡ record old { after = non_zero_u32_get given.0 }

  -- the next item is shown, or none is left
  abbrev pub GivesNext : Option (Token × Bor K × Bor V) → WalkFrom K V → Type 0
  GivesNext given new = MatchOption given (EndsAt old.places old.after × (new ≡ old))
      (λ shown. ShowsNext shown new)

  -- there are no more items than tokens behind
  abbrev pub tokens_left : Count
  tokens_left = at_most (4294967296 - old.after)
