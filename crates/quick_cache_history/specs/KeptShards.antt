-- What a lock keeps: a shard, and the history that it stands for.
use Rattle.std.specs.Prelude.{◌≡◌, ℕ, Bool, List, Option}
use Rattle.std.specs.declared.alloc.Global.{Global}
use Rattle.quick_cache_model.specs.CacheState.{CacheState, UpToOrder}
use Rattle.quick_cache_model.specs.declared.calls.call.Call.{Call}
use Rattle.quick_cache_model.specs.declared.calls.reply.Reply.{Reply}
use Rattle.quick_cache_locked.specs.Touches.{any_touches}
use Rattle.quick_cache_shard.specs.Predicates.{RemovesAsked}
use Rattle.quick_cache_shard.specs.Shard.{Shard, terms_of}
use Rattle.quick_cache_shard.specs.Steps.{Goes, steady_in, hooks_in, rules_in}
use Rattle.quick_cache_history.specs.declared.entry.Entry.{Entry}
use Rattle.quick_cache_history.specs.Histories.{first_in, calls_of}
use Rattle.quick_cache_history.specs.Pasts.{Known}
use Rattle.quick_cache_history.specs.Runs.{IsMade, IsStep, Lead}

-- the shard, and a beginning of the history in which all its calls are
pub record KeptShard (K V We B L : Type 0) : Type 0 where
  pub shard : Shard K V We B L
  pub known : Known K V

-- a removal by a test that answers once left this state, of some other
pub record LeftByAsking {K V : Type 0} (stands_for : K → Bool) (answers : V → Bool → Type 0)
    (answer : Option (K × V)) (new : CacheState K V) : Type 0 where
  pub old : CacheState K V
  pub step : UpToOrder (RemovesAsked stands_for old answers answer) new

module _ {K V We B L S : Type 0} (goes : Goes K V We B L S) (is_default : S → Type 0)
    (equal : K → K → Bool) where
  -- Where pinning is steady, the shard is what the calls of this number in the history make of an
  -- empty one.
  abbrev pub StandsAtEnd : (number : ℕ) → List (Entry K V) → Shard K V We B L → Type 0
  StandsAtEnd number log shard = steady_in goes shard
      → Lead (rules_in goes any_touches shard) equal (hooks_in goes shard) is_default (first_in log)
      (calls_of number log) shard.state

  -- A shard that stood so made the call of this entry, as one of its steps.
  pub record HasMade (number : ℕ) (log : List (Entry K V)) (entry : Entry K V)
      (left : Shard K V We B L) : Type 0 where
    pub old : Shard K V We B L
    pub same : terms_of left ≡ terms_of old
    pub stood : StandsAtEnd number log old
    pub step : steady_in goes old → IsStep (rules_in goes any_touches old) equal (hooks_in goes old)
        is_default old.state entry left.state

  -- This shard made this call with this reply, as one of its steps.
  pub record Makes (old : Shard K V We B L) (call : Call K V Bool) (reply : Reply K V Global)
      (new : Shard K V We B L) : Type 0 where
    pub same : terms_of new ≡ terms_of old
    pub step : steady_in goes old → IsMade (rules_in goes any_touches old) equal (hooks_in goes old)
        is_default old.state call reply new.state

  -- There is such a shard, and this holds of it.
  pub record AtEnd (number : ℕ) (log : List (Entry K V)) (P : Shard K V We B L → Type 0) : Type 0
    where
      pub shard : Shard K V We B L
      pub stands : StandsAtEnd number log shard
      pub holds : P shard
