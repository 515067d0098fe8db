-- An item that a walk by tokens takes out: the next that a predicate wants.
use Rattle.std.specs.Prelude.{◌≡◌, ℕ, ◌<◌, Bool, true, false, Option, MatchOption}
use Rattle.std.specs.Int.NonZero.{non_zero_u32_get as number}
use Rattle.std.specs.declared.num.NonZeroU32.{NonZeroU32 as Token}
use Rattle.quick_cache_model.specs.CacheState.{Item}
use Rattle.quick_cache_policy.specs.Tokens.{TakesItem}
use Rattle.quick_cache_shard.specs.Shard.{Shard, StandsAt, LeavesPlace}

module _ {K V We B L : Type 0} (answers : K → V → Bool → Type 0) (after : ℕ)
    (old : Shard K V We B L) where
  -- each item between the token behind which the walk begins and that one was answered no
  abbrev pub PassesTo : (next : ℕ) → Type 0
  PassesTo next = (token : ℕ) (item : Item K V) → StandsAt old token item → after < token
      → token < next → answers item.key item.value false

  -- no item behind is wanted
  abbrev pub WantsNone : Type 0
  WantsNone = (next : ℕ) → PassesTo next

  -- the item of that token is the first behind that is wanted
  pub record IsFirstWanted (token : ℕ) (item : Item K V) : Type 0 where
    pub stands : StandsAt old token item
    pub above : after < token
    pub passes : PassesTo token
    pub wanted : answers item.key item.value true

  -- that item is gone, and gives its token and its pair; no other moved
  pub record TakesWanted (taken : Token × K × V) (new : Shard K V We B L) : Type 0 where
    pub takes : TakesItem old.state (taken.1, taken.2) new.state
    pub first : IsFirstWanted (number taken.0) takes.item
    pub leaves : LeavesPlace old (number taken.0) taken.1 new

  -- the next item that is wanted was taken out, or none was wanted and nothing changed
  abbrev pub TakesNextWanted : Option (Token × K × V) → Shard K V We B L → Type 0
  TakesNextWanted taken new = MatchOption taken (WantsNone × (new ≡ old))
      (λ gone. TakesWanted gone new)
