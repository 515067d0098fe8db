-- What a contract sees of a walk that takes out what a predicate wants.
use Rattle.std.specs.Prelude.{◌≡◌, ℕ, ◌-◌, Bool, Option, Some, None}
use Rattle.std.specs.Borrow.{MutBor}
use Rattle.std.specs.Int.NonZero.{non_zero_u32_get as number}
use Rattle.std.specs.Iterator.{Count, at_most}
use Rattle.std.specs.declared.num.NonZeroU32.{NonZeroU32 as Token}
use denote.Ref.{Bor}
use denote.Param.Members.{Shared}
use Rattle.quick_cache_shard.specs.Predicates.{Answers, MayBeAskedOfEach}
use Rattle.quick_cache_shard.specs.Shard.{Shard}
use Rattle.quick_cache_shard.specs.Stays.{IdlesWithin}
use Rattle.quick_cache_shard.specs.TakesWanted.{TakesNextWanted}
use Rattle.quick_cache_shard.specs.WalksFrom.{number_or_zero}
use Rattle.quick_cache_unsync.specs.declared.walking.extracting.ExtractIf.{ExtractIf}

module _ {K V We B L F A H : Type 0} where
  -- the reference to the cache that it takes from
  abbrev pub takes_from : ExtractIf K V We B L F A H → MutBor (Shard K V We B L)
  takes_from walk = walk.cache

  -- the predicate
  abbrev pub asks : ExtractIf K V We B L F A H → F
  asks walk = walk.wanted

  -- the token behind which it goes on
  abbrev pub behind : ExtractIf K V We B L F A H → ℕ
  behind walk = number_or_zero walk.at

  -- there are no more items to come than tokens behind
  abbrev pub tokens_ahead : ExtractIf K V We B L F A H → Count
  tokens_ahead walk = at_most (4294967296 - behind walk)

  module _ (calls : Shared F (Bor K × (Bor V × Unit {0})) Bool) where
    -- the predicate may be asked of each item
    abbrev pub CanExtract : ExtractIf K V We B L F A H → Type 0
    CanExtract walk = MayBeAskedOfEach calls walk.wanted walk.cache.now.state

    -- the next item that is wanted leaves its cache, and the walk goes on behind it; or there is none
    abbrev pub TakesOrEnds : (old : ExtractIf K V We B L F A H) → Option (K × V)
        → (new : ExtractIf K V We B L F A H) → Type 0
    TakesOrEnds old None new =
        TakesNextWanted (Answers calls old.wanted) (behind old) old.cache.now None new.cache.now
        × (behind new ≡ behind old)
    TakesOrEnds old (Some pair) new = (token : Token)
        × TakesNextWanted (Answers calls old.wanted) (behind old) old.cache.now
        (Some (token, pair.0, pair.1)) new.cache.now × (behind new ≡ number token)

    -- `next` took old to new
    pub record Extracts (equal : K → K → Bool) (old : ExtractIf K V We B L F A H)
        (pair : Option (K × V)) (new : ExtractIf K V We B L F A H) : Type 0 where
      pub gives : TakesOrEnds old pair new
      pub asks : new.wanted ≡ old.wanted
      pub lender : new.cache.ghost_name ≡ old.cache.ghost_name
      pub stays : IdlesWithin equal 0 old.cache.now new.cache.now
