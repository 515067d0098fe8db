-- An item that is found has a place.
use Rattle.std.proofs.Common.{◌≡◌, ℕ, ◌<◌, Bool, false, true≢false, List, Option, Some, None, IfSome, IfNone, sym, ◌∙◌, subst}
use Rattle.std.specs.List.{AllByRecursion, Contains}
use Rattle.std.specs.Int.NonZero.{non_zero_u32_get}
use Rattle.std.specs.declared.num.NonZeroU32.{NonZeroU32 as Token}
use Rattle.quick_cache_model.specs.CacheState.{Item, Place, InHot, InCold, InStill, items_at}
use Rattle.quick_cache_model.specs.Finding.{HasNoItem}
use Rattle.quick_cache_model.proofs.EachElement.{all-middle}
use Rattle.quick_cache_shard.specs.PlaceWalks.{ArePlaces}
use Rattle.quick_cache_shard.specs.Shard.{HasItem, HasTokenUnder, Shard}
use Rattle.quick_cache_locked.specs.WholeWalks.{IsAhead}

module _ {K V We B L : Type 0} (equal : K → K → Bool) (key : K) (shard : Shard K V We B L)
    (numbered : (place : ℕ × K) → Contains shard.places place → 0 < place.0) where
  -- an item of a token is ahead of a walk from the beginning
  token-ahead : ArePlaces equal shard.places → (token : ℕ)
      → HasTokenUnder (equal key) shard token → IsAhead equal key shard 0
  token-ahead are_places token under = record {
    stays = record {
      are_places = are_places;
      place = (token, under.item.key);
      there = under.stands.place;
      is = under.passes;
    };
    above = numbered (token, under.item.key) under.stands.place;
  }

  -- what is found is not absent
  found-absent : HasItem (equal key) shard.state → HasNoItem (equal key) shard.state → ⊥
  found-absent has none =
      true≢false (sym has.at.passes ∙ all-middle (λ item. equal key item.key ≡ false) has.before
      has.item has.after
      (subst (λ (xs : List (Item K V)). AllByRecursion (λ item. equal key item.key ≡ false) xs)
      has.at.split (at has.place)))
    where
      at : (place : Place) → AllByRecursion (λ (item : Item K V). equal key item.key ≡ false)
          (items_at place shard.state)
      at InHot = none.hot
      at InCold = none.cold
      at InStill = none.still

  -- an item that is found has a token
  pub ahead : ArePlaces equal shard.places → (token : Option Token)
      → IfSome token (λ t. HasTokenUnder (equal key) shard (non_zero_u32_get t))
      → IfNone token (HasNoItem (equal key) shard.state)
      → HasItem (equal key) shard.state → IsAhead equal key shard 0
  ahead are_places (Some token) under absent has =
      token-ahead are_places (non_zero_u32_get token) under
  ahead are_places None under absent has = absurd (found-absent has absent)
