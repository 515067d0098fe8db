-- A cache for one thread whose entries end, as contracts see it, and the steps of its calls.
use Rattle.std.specs.Prelude.{◌≡◌, ℕ, Bool, true, false, not, List, Option, Some, None, Result, Ok, Err, is_some, if◌then◌else◌}
use Rattle.std.specs.Int.NonZero.{non_zero_u32_get}
use Rattle.std.specs.declared.num.NonZeroU32.{NonZeroU32 as Token}
use Rattle.quick_cache_model.specs.CacheState.{CacheState, Item, Place, UpToOrder}
use Rattle.quick_cache_model.specs.Finding.{IsItemAt, HasNoItem}
use Rattle.quick_cache_model.specs.Hooks.{Rules}
use Rattle.quick_cache_model.specs.References.{WritesItem}
use Rattle.quick_cache_model.specs.Removal.{RemovesIf}
use Rattle.quick_cache_model.specs.Touches.{counted_up}
use Rattle.quick_cache_shard.specs.References.{IsValueUnder}
use Rattle.quick_cache_shard.specs.Shard.{Shard, KeepsWork}
use Rattle.quick_cache_shard.specs.Tests.{LooksUpOrTakesOut, Miss, PassesTest}
use Rattle.quick_cache_shard.specs.TokenValues.{IsValueOf}
use Rattle.quick_cache_expiring.specs.declared.lasting.Lasting.{Lasting}
use Rattle.quick_cache_expiring.specs.declared.by_value.ByValue.{ByValue}
use Rattle.quick_cache_expiring.specs.Lastings.{lasting_of}
use Rattle.quick_cache_expiring.specs.Lives.{lives}

-- the cache of the values with their ends, how many looks found what was over, how many of these
-- were loads that were then refused, and the token behind which the next purge of some goes on
pub record Entries (K V We B L : Type 0) : Type 0 where
  pub cache : Shard K (Lasting V) (ByValue We) B L
  pub expired : ℕ
  pub refused : ℕ
  pub from : ℕ

-- nothing but the cache has changed
abbrev pub KeepsRest : {K V We B L : Type 0} → (old new : Entries K V We B L) → Type 0
KeepsRest old new = new ≡ record old { cache = new.cache }

-- a test of what serves at this moment answers so
abbrev pub AnswersAt : {V : Type 0} → (now : ℕ) → Lasting V → Bool → Type 0
AnswersAt now lasting answer = answer ≡ lives lasting.until now

-- the value that a look found
abbrev pub value_in : {V E : Type 0} → Result (Lasting V) E → Option V
value_in (Ok lasting) = Some lasting.value
value_in (Err other) = None

-- a look took out what was over
abbrev pub took_out : {T X : Type 0} → Result T (Option X) → Bool
took_out (Ok found) = false
took_out (Err taken) = is_some taken

-- the look tells that a value failed, which is that it was over
abbrev pub is_failed : Miss → Bool
is_failed Miss.Failed = true
is_failed Miss.Absent = false

-- what was over is counted
abbrev pub expired_after : (over : Bool) → ℕ → ℕ
expired_after over expired = if over then counted_up 1 expired else expired

module _ {K V : Type 0} (stands_for : K → Bool) (now : ℕ) (old : CacheState K (Lasting V)) where
  -- a look that changes nothing: what it shows serves
  pub data Shows : Option V → Type 0 where
    serves : (place : Place) (before : List (Item K (Lasting V))) (item : Item K (Lasting V))
        (after : List (Item K (Lasting V)))
        → IsItemAt stands_for old place before item after → lives item.value.until now ≡ true
        → Shows (Some item.value.value)
    is_over : (place : Place) (before : List (Item K (Lasting V))) (item : Item K (Lasting V))
        (after : List (Item K (Lasting V)))
        → IsItemAt stands_for old place before item after → lives item.value.until now ≡ false
        → Shows None
    is_absent : HasNoItem stands_for old → Shows None

module _ {K V We B L : Type 0} (stands_for : K → Bool) (now : ℕ) (old : Entries K V We B L) where
  -- the entry under the query goes where it is over, and no miss is counted
  pub record Expires (over : Bool) (new : Entries K V We B L) : Type 0 where
    pub taken : Option (K × Lasting V)
    pub told : over ≡ is_some taken
    pub removes : UpToOrder (RemovesIf stands_for old.cache.state
        (λ lasting. not (lives lasting.until now)) taken) new.cache.state
    pub rest : new ≡ record old {
      cache = new.cache;
      expired = expired_after over old.expired;
    }
    pub same : KeepsWork old.cache new.cache

  -- A look-up. An entry that serves is marked and read, and a hit is counted; one that is over
  -- goes, and a miss is counted, as where there is none.
  pub record Gets (shown : Option V) (new : Entries K V We B L) : Type 0 where
    pub found : Result (Lasting V) (Option (K × Lasting V))
    pub looks_up : LooksUpOrTakesOut stands_for (AnswersAt now) old.cache.state found new.cache.state
    pub shows : shown ≡ value_in found
    pub rest : new ≡ record old {
      cache = new.cache;
      expired = expired_after (took_out found) old.expired;
    }
    pub same : KeepsWork old.cache new.cache

  -- the same, of which the token is told of an entry that serves
  abbrev pub Finds : Option Token → Entries K V We B L → Type 0
  Finds (Some token) new =
      (lasting : Lasting V) × Gets (Some lasting.value) new
      × IsValueOf new.cache (non_zero_u32_get token) lasting
  Finds None new = Gets None new

module _ {K V We B L : Type 0} (rules : Rules K (Lasting V)) (stands_for : K → Bool)
    (now until : ℕ) (old : Entries K V We B L) where
  -- The entry serves and is looked up; then the value that it has is written with the new end.
  pub record Renews (new : Entries K V We B L) : Type 0 where
    pub found : Lasting V
    pub mid : CacheState K (Lasting V)
    pub looks_up : PassesTest stands_for (AnswersAt now) old.cache.state found mid
    pub was : Lasting V
    pub under : IsValueUnder stands_for mid was
    pub writes : UpToOrder
        (WritesItem rules stands_for mid (lasting_of was.value until) true) new.cache.state
    pub rest : KeepsRest old new
    pub same : KeepsWork old.cache new.cache

  -- it was renewed; or it is over and goes, or there is none, and nothing is renewed
  abbrev pub Touches : Bool → Entries K V We B L → Type 0
  Touches true new = Renews new
  Touches false new = Gets stands_for now old None new
