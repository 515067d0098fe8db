-- Calls that are made, each a step of its definition.
use Rattle.std.specs.Prelude.{All, Bool, List, [], Result, Vec}
use denote.Ref.{Bor}
use denote.Param.Members.{Shared}
use Rattle.quick_cache_model.specs.CacheState.{CacheState}
use Rattle.quick_cache_model.specs.Hooks.{Rules, Hooks, HookCall, RunsHooks}
use Rattle.quick_cache_model.specs.declared.calls.call.Call.{Call}
use Rattle.quick_cache_model.specs.declared.calls.reply.Reply.{Reply}
use Rattle.quick_cache_model.specs.CacheStep.{CacheStep}
use Rattle.quick_cache_model.specs.CacheRun.{IsRun, RunsCalls}
use Rattle.quick_cache_runs.specs.Conservation.{ConservesCalls}
use Rattle.quick_cache_shard.specs.Shard.{Shard, terms_of}
use Rattle.quick_cache_shard.specs.Steps.{Goes, steady_in, hooks_in, rules_in}
use Rattle.quick_cache_unsync.specs.Touches.{no_touches}
use Rattle.quick_cache_runs.specs.Asked.{IsAskedAs}

module _ {K V F M S : Type 0} (rules : Rules K V) (equal : K → K → Bool)
    (shows_key : K → K → Type 0) (shows : V → V → Type 0) (answers : F → K → V → Bool)
    (hooks : Hooks K V S) where
  -- the call is a step from the old state to the new one, whose hooks lead the request state from
  -- the first to the last
  pub record IsMade (old : CacheState K V) (first : S) (call : Call K V F) (reply : Reply K V M)
      (new : CacheState K V) (last : S) : Type 0 where
    pub calls : List (HookCall K V)
    pub step : CacheStep rules equal shows_key shows answers old call reply calls new
    pub runs : RunsHooks hooks calls first last

module _ {K V We B L F M S : Type 0} (goes : Goes K V We B L S) (equal : K → K → Bool)
    (shows_key : K → K → Type 0) (shows : V → V → Type 0) (answers : F → K → V → Bool)
    (old : Shard K V We B L) (first : S) where
  -- the call of a cache is made, as what it goes by says
  abbrev pub IsMadeBy : Call K V F → Reply K V M → (new : Shard K V We B L) → (last : S) → Type 0
  IsMadeBy call reply new last =
      IsMade (rules_in goes no_touches old) equal shows_key shows answers (hooks_in goes old)
      old.state first call reply new.state last

  -- the calls of a cache are a run
  abbrev pub IsRunBy : List (Call K V F) → List (Reply K V M) → (new : Shard K V We B L)
      → (last : S) → Type 0
  IsRunBy calls replies new last =
      IsRun (rules_in goes no_touches old) equal shows_key shows answers (hooks_in goes old)
      old.state first calls replies new.state last

module _ {K V We B L F M S : Type 0} (asks : Shared F (Bor K × (Bor V × Unit {0})) Bool)
    (goes : Goes K V We B L S) (equal : K → K → Bool) (shows_key : K → K → Type 0)
    (shows : V → V → Type 0) (old : Shard K V We B L) where
  -- where a predicate that is asked answers as a pure test does, the call is a step of its
  -- definition that calls no hook
  abbrev pub StepsAsked : Call K V F → Reply K V M → (new : Shard K V We B L) → Type 0
  StepsAsked call reply new = (answers : F → K → V → Bool)
      → IsAskedAs asks answers call
      → CacheStep (rules_in goes no_touches old) equal shows_key shows answers old.state call reply
      [] new.state

  module _ (first : S) where
    -- where pinning is steady, and a predicate that is asked answers so, the call is made
    abbrev pub MakesAsked : Call K V F → Reply K V M → (new : Shard K V We B L) → (last : S)
        → Type 0
    MakesAsked call reply new last = steady_in goes old → (answers : F → K → V → Bool)
        → IsAskedAs asks answers call
        → IsMadeBy goes equal shows_key shows answers old first call reply new last

    -- and all calls are a run
    abbrev pub RunsAsked : List (Call K V F) → List (Reply K V M) → (new : Shard K V We B L)
        → (last : S) → Type 0
    RunsAsked calls replies new last = steady_in goes old → (answers : F → K → V → Bool)
        → All (IsAskedAs asks answers) calls
        → IsRunBy goes equal shows_key shows answers old first calls replies new last

    -- or those are for whose replies there was room
    abbrev pub RunsCallsBy : {A : Type 0} → List (Call K V F)
        → Result (Vec (Reply K V M) A) (Vec (Reply K V M) A × Vec (Call K V F) A)
        → (new : Shard K V We B L) → (last : S) → Type 0
    RunsCallsBy calls result new last = (goes (terms_of old)).steady
        → (answers : F → K → V → Bool) → All (IsAskedAs asks answers) calls
        → RunsCalls ((goes (terms_of old)).rules no_touches) equal shows_key shows answers
        (goes (terms_of old)).hooks old.state first calls result new.state last

    -- and they keep their pairs
    abbrev pub ConservesCallsBy : {A : Type 0} → List (Call K V F)
        → Result (Vec (Reply K V M) A) (Vec (Reply K V M) A × Vec (Call K V F) A)
        → (new : Shard K V We B L) → (last : S) → Type 0
    ConservesCallsBy calls result new last = (goes (terms_of old)).steady
        → (answers : F → K → V → Bool) → All (IsAskedAs asks answers) calls
        → ConservesCalls ((goes (terms_of old)).rules no_touches) equal shows_key shows answers
        (goes (terms_of old)).hooks old.state first calls result new.state last

module _ (F : Type 0) {K V We B L S M : Type 0} (goes : Goes K V We B L S) (equal : K → K → Bool)
    (shows_key : K → K → Type 0) (shows : V → V → Type 0) (old : Shard K V We B L) where
  -- however predicates answer, the call is a step of its definition that calls no hook
  abbrev pub StepsBy : Call K V F → Reply K V M → (new : Shard K V We B L) → Type 0
  StepsBy call reply new = (answers : F → K → V → Bool)
      → CacheStep (rules_in goes no_touches old) equal shows_key shows answers old.state call reply
      [] new.state

  -- where pinning is steady, the call is made, however predicates answer
  abbrev pub MakesCall : (first : S) → Call K V F → Reply K V M → (new : Shard K V We B L)
      → (last : S) → Type 0
  MakesCall first call reply new last = steady_in goes old → (answers : F → K → V → Bool)
      → IsMadeBy goes equal shows_key shows answers old first call reply new last
