-- The calls that commands ask for, and what making them is.
use Rattle.std.specs.Prelude.{◌≡◌, ℕ, ◌-◌, ◌^◌, ◌==◌, Bool, true, false, List, Option, Some, None, min, nat_eq, ⊤}
use Rattle.std.specs.declared.alloc.Global.{Global}
use Rattle.quick_cache_model.specs.CacheState.{CacheState, item_count, total_weight}
use Rattle.quick_cache_model.specs.Hooks.{Rules, HookCall}
use Rattle.quick_cache_model.specs.Refusals.{MayRefuse, needs_of_placeholder}
use Rattle.quick_cache_model.specs.CacheStep.{CacheStep}
use Rattle.quick_cache_model.specs.Shown.{IsItself}
use Rattle.quick_cache_model.specs.declared.calls.call.Call.{Call}
use Rattle.quick_cache_model.specs.declared.calls.reply.Reply.{Reply}
use Rattle.qcrun_parts.specs.declared.command.Command.{Command}

-- a predicate is the value that passes it
abbrev pub is_wanted : (wanted key value : ℕ) → Bool
is_wanted wanted key value = value == wanted

-- the call that a command asks for, unless it asks for a new cache or to show the one that stands
abbrev pub call_of : Command → Option (Call ℕ ℕ ℕ)
call_of (Command.Cache items weight) = None
call_of (Command.CacheWithShares items weight hot ghosts) = None
call_of (Command.CacheWithMark items weight hot ghosts mark) = None
call_of (Command.Insert key value) = Some (Call.Insert key value)
call_of (Command.Replace key value) = Some (Call.Replace key value false)
call_of (Command.Soft key value) = Some (Call.Replace key value true)
call_of (Command.Get key) = Some (Call.Get key)
call_of (Command.Peek key) = Some (Call.Peek key)
call_of (Command.Remove key) = Some (Call.Remove key)
call_of (Command.RemoveIf key value) = Some (Call.RemoveIf key value)
call_of (Command.Set key value) = Some (Call.GetMut key value)
call_of (Command.Poke key value) = Some (Call.PeekMut key value)
call_of (Command.Load key value) = Some (Call.Load key (Some value))
call_of (Command.Fail key) = Some (Call.Load key None)
call_of (Command.Guard key value) = Some (Call.Guarded key (Some value))
call_of (Command.Drop key) = Some (Call.Guarded key None)
call_of (Command.Stats key) = Some (Call.Stats key)
call_of Command.Clear = Some Call.Clear
call_of (Command.Capacity weight) = Some (Call.SetCapacity weight)
call_of Command.Hits = Some Call.Counts
call_of Command.Show = None

-- the reply that tells the numbers of a cache
abbrev pub numbers_of : CacheState ℕ ℕ → Reply ℕ ℕ Global
numbers_of state =
    Reply.Counts (item_count state) (min (total_weight state) (2 ^ 64 - 1)) state.capacity
    state.hits state.misses

module _ (rules : Rules ℕ ℕ) (old : CacheState ℕ ℕ) where
  -- The call was made, or a placeholder for what it loads was refused: but for the pair of an
  -- insert, nothing else is ever refused.
  abbrev pub IsMade : Call ℕ ℕ ℕ → Reply ℕ ℕ Global → Type 0
  IsMade (Call.Load key given) (Reply.Refused refusal) =
      MayRefuse (needs_of_placeholder (nat_eq key) (rules.hash key) old) old refusal
  IsMade (Call.Guarded key given) (Reply.Refused refusal) =
      MayRefuse (needs_of_placeholder (nat_eq key) (rules.hash key) old) old refusal
  IsMade made (Reply.Refused refusal) = ⊥
  IsMade made _ = ⊤

  -- The call is made, or refused, and its reply shows keys and values as they are.
  abbrev pub Serves : Call ℕ ℕ ℕ → Reply ℕ ℕ Global → List (HookCall ℕ ℕ) → CacheState ℕ ℕ
      → Type 0
  Serves made answer hook_calls new =
      CacheStep rules nat_eq IsItself IsItself is_wanted old made answer hook_calls new
      × IsMade made answer

  -- so is the call that a command asks for
  abbrev pub ServesAsked : Command → Reply ℕ ℕ Global → List (HookCall ℕ ℕ) → CacheState ℕ ℕ
      → Type 0
  ServesAsked command answer hook_calls new =
      (made : Call ℕ ℕ ℕ) × (call_of command ≡ Some made) × Serves made answer hook_calls new
