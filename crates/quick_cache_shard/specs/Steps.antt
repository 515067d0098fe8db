-- The steps of a shard's calls that weigh, pin or call hooks, as what it goes by says. The request
-- state comes last, before and after.
use Rattle.std.specs.Prelude.{ℕ, Bool, Option, Some, None, Result, Ok, Err}
use Rattle.quick_cache_model.specs.declared.queue.Queue.{Queue}
use Rattle.quick_cache_model.specs.declared.refusal.Refusal.{Refusal}
use Rattle.quick_cache_model.specs.CacheState.{CacheState}
use Rattle.quick_cache_model.specs.Hooks.{Rules, Hooks, Calls}
use Rattle.quick_cache_model.specs.Writes.{Strategy}
use Rattle.quick_cache_policy.specs.Filling.{AnswersFill}
use Rattle.quick_cache_policy.specs.References.{ReweighsUnder}
pub use Rattle.quick_cache_policy.specs.Restoring.{AnswersRestore}
use Rattle.quick_cache_policy.specs.Writing.{Wrote, RefusesWrite}
use Rattle.quick_cache_policy.specs.Inserts.{Inserts}
use Rattle.quick_cache_policy.specs.Replaces.{Replaces}
use Rattle.quick_cache_shard.specs.SetsCapacity.{SetsCapacityTo}
use Rattle.quick_cache_shard.specs.Shard.{Shard, terms_of}
use Rattle.quick_cache_shard.specs.TokenValues.{ReweighsToken}
pub use Rattle.quick_cache_shard.specs.Goes.{Goes, goes_by}

module _ {K V S : Type 0} (steady : Type 0) (hooks : Hooks K V S) (rules : Rules K V)
    (equal : K → K → Bool) (strategy : Strategy) (old : CacheState K V) (first : S) (key : K)
    (value : V) where
  -- the answer of a write that gave a pair back: it was not admitted, or refused
  abbrev pub GivesBack : K → V → Option Refusal → CacheState K V → S → Type 0
  GivesBack back_key back_value None new last =
      Wrote steady hooks rules equal strategy old first key value (Some (back_key, back_value)) new
      last
  GivesBack back_key back_value (Some refusal) new last =
      RefusesWrite steady hooks rules equal strategy old first key value back_key back_value refusal
      new last

  -- the answer of a write by a strategy
  abbrev pub AnswersWrite : Result (Unit {0}) (K × V × Option Refusal) → CacheState K V → S → Type 0
  AnswersWrite (Ok done) new last =
      Wrote steady hooks rules equal strategy old first key value None new last
  AnswersWrite (Err back) new last = GivesBack back.0 back.1 back.2 new last

-- what it says of a shard: whether pinning is steady, the hooks that are called, and the rules
module _ {K V We B L S : Type 0} (goes : Goes K V We B L S) where
  abbrev pub steady_in : Shard K V We B L → Type 0
  steady_in shard = (goes (terms_of shard)).steady

  abbrev pub hooks_in : Shard K V We B L → Hooks K V S
  hooks_in shard = (goes (terms_of shard)).hooks

  abbrev pub rules_in : (may_count : ℕ → Type 0) → Shard K V We B L → Rules K V
  rules_in may_count shard = (goes (terms_of shard)).rules may_count

module _ {K V We B L S : Type 0} (goes : Goes K V We B L S)
    (may_count : ℕ → Type 0) (old : Shard K V We B L) where
  -- The pair was written or comes back, and where pinning is steady, that is a step of its
  -- definition.
  abbrev pub AnswersWriteBy : (equal : K → K → Bool) → Strategy → (key : K) → (value : V)
      → Result (Unit {0}) (K × V × Option Refusal) → (new : Shard K V We B L) → S → S → Type 0
  AnswersWriteBy equal strategy key value answer new first last =
      AnswersWrite (steady_in goes old) (hooks_in goes old) (rules_in goes may_count old) equal
      strategy old.state first key value answer new.state last

  -- the pair came back to where it stood, or it is given back
  abbrev pub RestoresBy : (equal : K → K → Bool) → (key : K) → (value : V) → Queue → (mark : ℕ)
      → Result (Unit {0}) (K × V × Option Refusal) → (new : Shard K V We B L) → Type 0
  RestoresBy equal key value queue mark answer new =
      AnswersRestore (rules_in goes may_count old) equal key value queue mark old.state answer
      new.state

  -- an insert, which is admitted or refused
  abbrev pub InsertsBy : (equal : K → K → Bool) → (key : K) → (value : V)
      → Result (Unit {0}) (K × V × Refusal) → (new : Shard K V We B L) → S → S → Type 0
  InsertsBy equal key value answer new first last =
      Inserts (steady_in goes old) (hooks_in goes old) (rules_in goes may_count old) equal
      old.state first key value answer new.state last

  -- a replace, which is never refused
  abbrev pub ReplacesBy : (equal : K → K → Bool) → (soft : Bool) → (key : K) → (value : V)
      → Result (Unit {0}) (K × V) → (new : Shard K V We B L) → S → S → Type 0
  ReplacesBy equal soft key value answer new first last =
      Replaces (steady_in goes old) (hooks_in goes old) (rules_in goes may_count old) equal
      old.state soft first key value answer new.state last

  -- the placeholder of the ticket was filled, or is gone
  abbrev pub FillsBy : (ticket : ℕ) → (referenced : Bool) → (value : V) → Result (Unit {0}) V
      → (new : Shard K V We B L) → S → S → Type 0
  FillsBy ticket referenced value answer new =
      Calls (hooks_in goes old) (AnswersFill (steady_in goes old) ticket old.state
      (rules_in goes may_count old) referenced value answer new.state)

  -- the capacity was set, and victims left
  abbrev pub SetsCapacityBy : (capacity : ℕ) → (new : Shard K V We B L) → S → S → Type 0
  SetsCapacityBy capacity new first last =
      SetsCapacityTo (steady_in goes old) (hooks_in goes old) (rules_in goes may_count old)
      capacity old.state first new.state last

  -- the item under the query was weighed anew
  abbrev pub ReweighsBy : (stands_for : K → Bool) → (new : Shard K V We B L) → Type 0
  ReweighsBy stands_for new =
      ReweighsUnder stands_for (rules_in goes may_count old) old.state new.state

  -- the item of the token was weighed anew
  abbrev pub ReweighsTokenBy : (token : ℕ) → (new : Shard K V We B L) → Type 0
  ReweighsTokenBy token new = ReweighsToken (rules_in goes may_count old) old token new.state
