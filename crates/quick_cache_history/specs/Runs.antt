-- The calls of a shard in a history: a run of the definition, over three plain lists.
use Rattle.std.specs.Prelude.{Bool, List, [], ◌∷◌, ◌++◌}
use Rattle.quick_cache_model.specs.CacheState.{CacheState}
use Rattle.quick_cache_model.specs.CacheStep.{CacheStep}
use Rattle.quick_cache_model.specs.Hooks.{Rules, Hooks, HookCall, RunsHooks}
use Rattle.quick_cache_model.specs.Shown.{IsItself}
use Rattle.quick_cache_model.specs.declared.calls.call.Call.{Call}
use Rattle.quick_cache_model.specs.declared.calls.reply.Reply.{Reply}
use Rattle.quick_cache_history.specs.declared.entry.Entry.{Entry}

-- a predicate stands in a call as what it answered
abbrev pub as_answered : {K V : Type 0} → Bool → K → V → Bool
as_answered answer key value = answer

-- the hooks that one call calls: none, or these, with a request state of the call's own, which is a
-- default one at first
pub data AreTold {K V S : Type 0} (hooks : Hooks K V S) (is_default : S → Type 0)
    : List (HookCall K V) → Type 0 where
  none : AreTold hooks is_default []
  some : (calls : List (HookCall K V)) (first last : S) → is_default first
      → RunsHooks hooks calls first last → AreTold hooks is_default calls

module _ {K V S : Type 0} (rules : Rules K V) (equal : K → K → Bool) (hooks : Hooks K V S)
    (is_default : S → Type 0) where
  -- a call with this reply, which was made: a step of the definition, with the very keys and values
  pub record IsMade {M : Type 0} (old : CacheState K V) (call : Call K V Bool)
      (reply : Reply K V M) (new : CacheState K V) : Type 0 where
    pub hook_calls : List (HookCall K V)
    pub step : CacheStep rules equal IsItself IsItself as_answered old call reply hook_calls new
    pub told : AreTold hooks is_default hook_calls

  -- an entry that is a call
  abbrev pub IsStep : CacheState K V → Entry K V → CacheState K V → Type 0
  IsStep old (Entry.Opened options sizes) new = ⊥
  IsStep old (Entry.Made turn next shard call reply) new = IsMade old call reply new

  -- The calls lead from the first state to this one: there are none, or those before the last lead
  -- to some state, from which the last is a step to this one.
  pub data Lead (first : CacheState K V) : List (Entry K V) → CacheState K V → Type 0 where
    begins : Lead first [] first
    goes_on : (calls : List (Entry K V)) (mid : CacheState K V) (entry : Entry K V)
        (new : CacheState K V) → Lead first calls mid → IsStep mid entry new
        → Lead first (calls ++ entry ∷ []) new
