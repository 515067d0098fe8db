-- Some of the items, which a walk by tokens shows to a predicate, so many at most.
use Rattle.std.specs.Prelude.{◌≡◌, ◌⊎◌, ℕ, ◌-◌, ◌<◌, ◌≤◌, Bool, true, false, List, [], ◌∷◌, length, Option, None}
use Rattle.std.specs.List.{Contains}
use Rattle.std.specs.declared.num.NonZeroU32.{NonZeroU32 as Token}
use Rattle.quick_cache_model.specs.CacheState.{item_count}
use Rattle.quick_cache_policy.specs.Predicates.{RetainsAsked}
use Rattle.quick_cache_shard.specs.PlaceWalks.{IsNextPlace, EndsAt}
use Rattle.quick_cache_shard.specs.Shard.{Shard, LosesOnly}
use Rattle.quick_cache_shard.specs.WalksFrom.{number_or_zero}

module _ {K : Type 0} where
  -- the next places behind a token, the last one first, up to its token
  pub data Passes (places : List (ℕ × K)) (after : ℕ) : List (ℕ × K) → (last : ℕ) → Type 0 where
    none : Passes places after [] after
    next : (passed : List (ℕ × K)) (last : ℕ) (place : ℕ × K) → Passes places after passed last
        → IsNextPlace places last place → Passes places after (place ∷ passed) place.0

  -- the item of the key was passed
  abbrev pub HasPassed : List (ℕ × K) → K → Type 0
  HasPassed passed key = (token : ℕ) × Contains passed (token, key)

-- an item that was passed stays where it was answered yes, and goes where it was answered no
abbrev pub StaysIfPassed : {K V : Type 0} → (answers : K → V → Bool → Type 0)
    → (passed : List (ℕ × K)) → K → V → Bool → Type 0
StaysIfPassed answers passed key value true = HasPassed passed key → answers key value true
StaysIfPassed answers passed key value false = HasPassed passed key × answers key value false

module _ {K V We B L : Type 0} (answers : K → V → Bool → Type 0) (after : ℕ)
    (old : Shard K V We B L) where
  -- A walk from behind one token to another: of the items that it passed those are gone that were
  -- answered no, and nothing else is. No item that stays has moved.
  pub record RetainsTo (passed : List (ℕ × K)) (last : ℕ) (new : Shard K V We B L) : Type 0 where
    pub passes : Passes old.places after passed last
    pub retains : RetainsAsked (StaysIfPassed answers passed) old.state new.state
    pub loses : LosesOnly old.places new.places
    pub ahead : (place : ℕ × K) → Contains old.places place → last < place.0
        → Contains new.places place

  -- It passed so many items, or all that there were. It tells the token behind which it goes on,
  -- none where no item is left, and how many are gone.
  pub record RetainsSome (at_most : ℕ) (answer : Option Token × ℕ) (new : Shard K V We B L)
      : Type 0 where
    pub passed : List (ℕ × K)
    pub last : ℕ
    pub retains : RetainsTo passed last new
    pub stops : ((length passed ≡ at_most) × (number_or_zero answer.0 ≡ last))
        ⊎ ((length passed ≤ at_most) × EndsAt old.places last × (answer.0 ≡ None))
    pub counts : answer.1 ≡ item_count old.state - item_count new.state
