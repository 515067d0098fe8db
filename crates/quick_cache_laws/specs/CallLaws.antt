-- Laws of the calls of a cache for one thread.
use Rattle.std.specs.Prelude.{◌≡◌, ℕ, ◌<◌, ◌≤◌, Bool, true, List, [], Option, Some, None}
use Rattle.quick_cache_model.specs.declared.refusal.Refusal.{Refusal}
use Rattle.quick_cache_model.specs.Admission.{PassesCheck}
use Rattle.quick_cache_model.specs.CacheState.{CacheState, IsValid, SameButOrder}
use Rattle.quick_cache_model.specs.Finding.{HasNothing}
use Rattle.quick_cache_model.specs.Hooks.{Rules, HookCall}
use Rattle.quick_cache_model.specs.Sizes.{IsSized}
use Rattle.quick_cache_laws.specs.Admitted.{unpinned_weight, HoldsPair}
use Rattle.quick_cache_laws.specs.Steps.{Steps}
use Rattle.quick_cache_model.specs.declared.calls.call.Call.{Call}
use Rattle.quick_cache_model.specs.declared.calls.reply.Reply.{Reply}
use Rattle.quick_cache_model.specs.CacheRun.{CacheRun}
use Rattle.quick_cache_model.specs.CacheStep.{CacheStep}
use Rattle.quick_cache_model.specs.Kinds.{IsLook, IsLoad, MakesRoom}

-- a call that writes this pair
pub data IsWrite {K V F : Type 0} (key : K) (value : V) : Call K V F → Type 0 where
  insert : IsWrite key value (Call.Insert key value)
  replace : (soft : Bool) → IsWrite key value (Call.Replace key value soft)

-- A call under this key whose loader or guard gave this value to a fill, with its reply. A value
-- that is then written through a reference may weigh anything, so a call that writes one is none.
pub data IsFill {K V F M : Type 0} (key : K) (value : V) : Call K V F → Reply K V M → Type 0 where
  loaded : (there : Bool) → IsFill key value (Call.Load key (Some value)) (Reply.Loaded there)
  filled : IsFill key value (Call.Guarded key (Some value)) Reply.Filled
  filled_mut : (left : V) → IsFill key value (Call.GuardedMut key (Some value) left) Reply.Filled

-- A call that may be refused, and why: a look, for its clone; a call that makes room, for that; and
-- a call that loads, for anything.
pub data IsRefusable {K V F : Type 0} (refusal : Refusal) : Call K V F → Type 0 where
  look : (call : Call K V F) (key : K) → IsLook key call → refusal ≡ Refusal.Memory
      → IsRefusable refusal call
  room : (call : Call K V F) → MakesRoom call → refusal ≡ Refusal.Memory → IsRefusable refusal call
  load : (call : Call K V F) (key : K) (given left : Option V) → IsLoad key given left call
      → IsRefusable refusal call

module _ (K V F M : Type 0) (equal : K → K → Bool) (shows_key : K → K → Type 0)
    (shows : V → V → Type 0) (may_count : ℕ → Type 0) where
  -- whatever the rules are, and what predicates answer
  abbrev pub WhateverCalls : (Rules K V → (F → K → V → Bool) → Type 0) → Type 0
  WhateverCalls P =
      (hash : K → ℕ) (weight : K → V → ℕ) (pinned : K → V → Bool) (answers : F → K → V → Bool)
      → P (record { hash = hash; weight = weight; pinned = pinned; may_count = may_count }) answers

  -- the step of a call, and a run of calls
  abbrev pub IsStep : Rules K V → (F → K → V → Bool) → CacheState K V → Call K V F → Reply K V M
      → List (HookCall K V) → CacheState K V → Type 0
  IsStep rules answers = CacheStep rules equal shows_key shows answers

  abbrev pub IsRun : Rules K V → (F → K → V → Bool) → CacheState K V → List (Call K V F)
      → List (Reply K V M) → List (HookCall K V) → CacheState K V → Type 0
  IsRun rules answers = CacheRun rules equal shows_key shows answers

  -- after a write that was done, of a pair that passed its check, the items that are not pinned
  -- weigh at most the capacity, if the hot target was within it
  abbrev pub DoneWritesStayWithinCapacity : Type 0
  DoneWritesStayWithinCapacity = WhateverCalls (λ rules answers. (old new : CacheState K V)
      (call : Call K V F) (key : K) (value left : V) (calls : List (HookCall K V))
      → IsWrite key value call → IsStep rules answers old call Reply.Done calls new
      → PassesCheck rules old.hot_target key value calls left → old.hot_target ≤ old.capacity
      → unpinned_weight rules new ≤ new.capacity)

  -- so they do after a fill whose value passed it with a weight above 0, under the placeholder's
  -- key, which is equal to the call's
  abbrev pub DoneFillsStayWithinCapacity : Type 0
  DoneFillsStayWithinCapacity = WhateverCalls (λ rules answers. (old new : CacheState K V)
      (call : Call K V F) (reply : Reply K V M) (key : K) (value : V) (calls : List (HookCall K V))
      → IsValid equal old → IsFill key value call reply
      → IsStep rules answers old call reply calls new
      → (own : K) × (equal key own ≡ true)
      × ((left : V) → PassesCheck rules old.hot_target own value calls left
      → 0 < rules.weight own left → unpinned_weight rules new ≤ new.capacity))

  -- a key of which nothing was found is resident after an insert that was done, with the value that
  -- the check left
  abbrev pub DoneInsertsAreResident : Type 0
  DoneInsertsAreResident = WhateverCalls (λ rules answers. (old new : CacheState K V)
      (key : K) (value left : V) (calls : List (HookCall K V))
      → HasNothing (equal key) (rules.hash key) old
      → IsStep rules answers old (Call.Insert key value) Reply.Done calls new
      → PassesCheck rules old.hot_target key value calls left → HoldsPair key left new)

  -- a key that was removed is not there to be removed again
  abbrev pub SecondRemovesGiveNothing : Type 0
  SecondRemovesGiveNothing = WhateverCalls (λ rules answers. (old mid new : CacheState K V)
      (key : K) (first second : Reply K V M) (calls more : List (HookCall K V))
      → IsValid equal old → IsStep rules answers old (Call.Remove key) first calls mid
      → IsStep rules answers mid (Call.Remove key) second more new → second ≡ Reply.Pair None)

  -- a second retain by the same predicate removes nothing
  abbrev pub SecondRetainsRemoveNothing : Type 0
  SecondRetainsRemoveNothing = WhateverCalls (λ rules answers. (old mid new : CacheState K V)
      (keep : F) (first second : Reply K V M) (calls more : List (HookCall K V))
      → IsStep rules answers old (Call.Retain keep) first calls mid
      → IsStep rules answers mid (Call.Retain keep) second more new → SameButOrder mid new)

  -- a call that is refused changes nothing and calls no hook, and only some calls ever are
  abbrev pub RefusedCallsChangeNothing : Type 0
  RefusedCallsChangeNothing = WhateverCalls (λ rules answers. (old new : CacheState K V)
      (call : Call K V F) (refusal : Refusal) (calls : List (HookCall K V))
      → IsStep rules answers old call (Reply.Refused refusal) calls new
      → IsRefusable refusal call × (new ≡ old) × (calls ≡ []))

  -- so does an insert whose pair comes back: it is the pair that was handed in
  abbrev pub RefusedInsertsChangeNothing : Type 0
  RefusedInsertsChangeNothing = WhateverCalls (λ rules answers. (old new : CacheState K V)
      (call : Call K V F) (key : K) (value : V) (refusal : Refusal) (calls : List (HookCall K V))
      → IsStep rules answers old call (Reply.RefusedPair key value refusal) calls new
      → (call ≡ Call.Insert key value) × (new ≡ old) × (calls ≡ []))

  -- a run of calls is a list of steps
  abbrev pub RunsAreSteps : Type 0
  RunsAreSteps = WhateverCalls (λ rules answers. (old new : CacheState K V)
      (calls : List (Call K V F)) (replies : List (Reply K V M)) (hook_calls : List (HookCall K V))
      → IsRun rules answers old calls replies hook_calls new → Steps equal rules old new)

  -- it leads from a valid state to a valid one
  abbrev pub RunsStayValid : Type 0
  RunsStayValid = WhateverCalls (λ rules answers. (old new : CacheState K V)
      (calls : List (Call K V F)) (replies : List (Reply K V M)) (hook_calls : List (HookCall K V))
      → IsRun rules answers old calls replies hook_calls new
      → IsValid equal old → IsValid equal new)

  -- and from a cache that is sized to such
  abbrev pub RunsStaySized : Type 0
  RunsStaySized = WhateverCalls (λ rules answers. (old new : CacheState K V)
      (calls : List (Call K V F)) (replies : List (Reply K V M)) (hook_calls : List (HookCall K V))
      → IsRun rules answers old calls replies hook_calls new → IsSized old → IsSized new)
