-- Keys that leave a shard, with what is being loaded for them.
use Rattle.std.specs.Prelude.{◌≡◌, ℕ, Bool, true, not, ◌⊎◌, Option, None, Some, ltb, cond, false}
use Rattle.std.specs.List.{Contains}
use Rattle.quick_cache_shard.specs.Loading.{HasNoneWanted}
use Rattle.quick_cache_model.specs.CacheState.{CacheState, LoadingEntry, UpToOrder}
use Rattle.quick_cache_model.specs.Placeholders.{GivesUpPlaceholder, HasNoTicket}
use Rattle.quick_cache_shard.specs.Filling.{AwaitsKey}
use Rattle.quick_cache_shard.specs.Predicates.{StayAsAnswered}

-- a ticket is above one, if one is named
abbrev pub is_above : Option ℕ → ℕ → Bool
is_above None ticket = true
is_above (Some least) ticket = ltb least ticket

-- a ticket is below one, if one is named
abbrev pub is_below : Option ℕ → ℕ → Bool
is_below None ticket = true
is_below (Some greatest) ticket = ltb ticket greatest

-- a ticket is above the one and below the other
abbrev pub is_between : (above below : Option ℕ) → ℕ → Bool
is_between above below ticket = cond (is_above above ticket) (is_below below ticket) false

-- a ticket is above another, and no placeholder has one between the two
pub record IsNextTicket {K V : Type 0} (above : Option ℕ) (ticket : ℕ) (state : CacheState K V)
    : Type 0 where
  pub after : is_above above ticket ≡ true
  pub none_between : HasNoneWanted (is_between above (Some ticket)) state

module _ {K V : Type 0} (answers : K → Bool → Type 0) where
  -- an item stays where its key was answered no
  abbrev pub StaysByKey : K → V → Bool → Type 0
  StaysByKey key value stays = answers key (not stays)

  -- The items whose key was answered yes are gone, and the others stand, in their order. Of the
  -- placeholders none is gone but of a key that was answered yes.
  pub record InvalidatesAsked (old new : CacheState K V) : Type 0 where
    pub hot : StayAsAnswered StaysByKey old.hot new.hot
    pub cold : StayAsAnswered StaysByKey old.cold new.cold
    pub still : StayAsAnswered StaysByKey old.still new.still
    pub none_comes : (entry : LoadingEntry K) → Contains new.loading entry
        → Contains old.loading entry
    pub each : (entry : LoadingEntry K) → Contains old.loading entry
        → Contains new.loading entry ⊎ answers entry.key true
    pub same : new ≡ record old {
      hot = new.hot;
      cold = new.cold;
      still = new.still;
      loading = new.loading;
    }

  -- The placeholder of the ticket is given up where its key was answered yes. Where that was
  -- answered no, or there is none, nothing changes.
  pub data GivesUpAsked (ticket : ℕ) (old : CacheState K V) : Bool → CacheState K V → Type 0 where
    was_gone : HasNoTicket ticket old → GivesUpAsked ticket old false old
    stays : (key : K) → AwaitsKey ticket old key → answers key false
        → GivesUpAsked ticket old false old
    goes : (key : K) (new : CacheState K V) → AwaitsKey ticket old key → answers key true
        → UpToOrder (GivesUpPlaceholder ticket old) new → GivesUpAsked ticket old true new
