-- Runs: lists of calls, each a step from the state that the one before it left.
use Rattle.std.specs.Prelude.{◌≡◌, ◌≤◌, Bool, List, [], ◌∷◌, ◌++◌, Result, Ok, Err, Vec, vec_len, vec_capacity}
use Rattle.quick_cache_model.specs.CacheState.{CacheState}
use Rattle.quick_cache_model.specs.Hooks.{Rules, Hooks, HookCall, RunsHooks}
use Rattle.quick_cache_model.specs.declared.calls.call.Call.{Call}
use Rattle.quick_cache_model.specs.declared.calls.reply.Reply.{Reply}
use Rattle.quick_cache_model.specs.CacheStep.{CacheStep}

module _ {K V F M : Type 0} (rules : Rules K V) (equal : K → K → Bool)
    (shows_key : K → K → Type 0) (shows : V → V → Type 0) (answers : F → K → V → Bool) where
  -- from a state, by these calls with these replies, which call these hooks, to a state
  pub data CacheRun : CacheState K V → List (Call K V F) → List (Reply K V M) → List (HookCall K V)
      → CacheState K V → Type 0 where
    ends : (state : CacheState K V) → CacheRun state [] [] [] state
    goes_on : (old mid new : CacheState K V) (call : Call K V F) (reply : Reply K V M)
        (calls : List (Call K V F)) (replies : List (Reply K V M))
        (first rest : List (HookCall K V))
        → CacheStep rules equal shows_key shows answers old call reply first mid
        → CacheRun mid calls replies rest new
        → CacheRun old (call ∷ calls) (reply ∷ replies) (first ++ rest) new

  -- a run of these calls with these replies, whose hooks lead the request state from the first to
  -- the last
  pub record IsRun {S : Type 0} (hooks : Hooks K V S) (old : CacheState K V) (first : S)
      (calls : List (Call K V F)) (replies : List (Reply K V M))
      (new : CacheState K V) (last : S) : Type 0 where
    pub hook_calls : List (HookCall K V)
    pub steps : CacheRun old calls replies hook_calls new
    pub runs : RunsHooks hooks hook_calls first last

  -- The list of replies was full before it had the reply to one of the calls: those before that one
  -- were made, and it comes back with those behind it.
  pub record StopsWhereFull {S A : Type 0} (hooks : Hooks K V S) (old : CacheState K V) (first : S)
      (calls : List (Call K V F))
      (replies : Vec (Reply K V M) A) (back : Vec (Call K V F) A) (new : CacheState K V)
      (last : S) : Type 0 where
    pub made : List (Call K V F)
    pub unmade : Call K V F
    pub behind : List (Call K V F)
    pub parts : calls ≡ made ++ unmade ∷ behind
    pub comes_back : back.items ≡ unmade ∷ behind
    pub runs : IsRun hooks old first made replies.items new last
    pub is_full : vec_capacity replies ≤ vec_len replies

  -- All calls were made, or those before the first for whose reply there was no room.
  abbrev pub RunsCalls : {S A : Type 0} → Hooks K V S → CacheState K V → S → List (Call K V F)
      → Result (Vec (Reply K V M) A) (Vec (Reply K V M) A × Vec (Call K V F) A) → CacheState K V → S
      → Type 0
  RunsCalls hooks old first calls (Ok replies) new last =
      IsRun hooks old first calls replies.items new last
  RunsCalls hooks old first calls (Err back) new last =
      StopsWhereFull hooks old first calls back.0 back.1 new last
