-- What a contract sees of a walk that takes out what is over.
use Rattle.std.specs.Prelude.{◌≡◌, ℕ, ◌-◌, Bool, not, Option, Some, None}
use Rattle.std.specs.Borrow.{MutBor}
use Rattle.std.specs.Int.NonZero.{non_zero_u32_get as number}
use Rattle.std.specs.Iterator.{Count, at_most}
use Rattle.std.specs.declared.num.NonZeroU32.{NonZeroU32 as Token}
use Rattle.quick_cache_shard.specs.Stays.{IdlesWithin}
use Rattle.quick_cache_shard.specs.TakesWanted.{TakesNextWanted}
use Rattle.quick_cache_shard.specs.WalksFrom.{number_or_zero}
use Rattle.quick_cache_expiring.specs.Entries.{Entries, KeepsRest}
use Rattle.quick_cache_expiring.specs.Lives.{lives}
use Rattle.quick_cache_expiring.specs.declared.alone.over.TakeOver.{TakeOver}
use Rattle.quick_cache_expiring.specs.declared.lasting.Lasting.{Lasting}

-- an entry goes exactly where it is over
abbrev pub IsOverAt : {K V : Type 0} → (now : ℕ) → K → Lasting V → Bool → Type 0
IsOverAt now _ lasting goes = goes ≡ not (lives lasting.until now)

module _ {K V We B L A H : Type 0} where
  -- the reference to the cache that it takes from
  abbrev pub takes_from : TakeOver K V We B L A H → MutBor (Entries K V We B L)
  takes_from walk = walk.entries

  -- at which moment
  abbrev pub moment_of : TakeOver K V We B L A H → ℕ
  moment_of walk = walk.moment

  -- the token behind which it goes on
  abbrev pub behind : TakeOver K V We B L A H → ℕ
  behind walk = number_or_zero walk.at

  -- there are no more entries to come than tokens behind
  abbrev pub tokens_ahead : TakeOver K V We B L A H → Count
  tokens_ahead walk = at_most (4294967296 - behind walk)

  -- the next entry that is over leaves its cache, and the walk goes on behind it; or there is none
  abbrev pub TakesOrEnds : (old : TakeOver K V We B L A H) → Option (K × Lasting V)
      → (new : TakeOver K V We B L A H) → Type 0
  TakesOrEnds old None new = TakesNextWanted (IsOverAt old.moment) (behind old)
      old.entries.now.cache None new.entries.now.cache × (behind new ≡ behind old)
  TakesOrEnds old (Some pair) new = (token : Token)
      × TakesNextWanted (IsOverAt old.moment) (behind old) old.entries.now.cache
      (Some (token, pair.0, pair.1)) new.entries.now.cache × (behind new ≡ number token)

  -- `next` took old to new
  pub record TakesOver (equal : K → K → Bool) (old : TakeOver K V We B L A H)
      (pair : Option (K × Lasting V)) (new : TakeOver K V We B L A H) : Type 0 where
    pub gives : TakesOrEnds old pair new
    pub moment : new.moment ≡ old.moment
    pub lender : new.entries.ghost_name ≡ old.entries.ghost_name
    pub stays : IdlesWithin equal 0 old.entries.now.cache new.entries.now.cache
    pub rest : KeepsRest old.entries.now new.entries.now
