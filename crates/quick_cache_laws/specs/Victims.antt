-- Who is never a victim.
use Rattle.std.specs.Prelude.{◌≡◌, Bool, false, List, ℕ}
use Rattle.std.specs.List.{AllByRecursion}
use Rattle.quick_cache_model.specs.CacheState.{CacheState}
use Rattle.quick_cache_model.specs.Hooks.{Rules, HookCall, BeforeEvict, EvictHot, EvictCold}
use Rattle.quick_cache_model.specs.declared.calls.call.Call.{Call}
use Rattle.quick_cache_model.specs.declared.calls.reply.Reply.{Reply}
use Rattle.quick_cache_laws.specs.CallLaws.{WhateverCalls, IsRun}

-- before an eviction none but unpinned pairs are handed to the hook
abbrev pub IsOfUnpinned : {K V : Type 0} → Rules K V → HookCall K V → Type 0
IsOfUnpinned rules (BeforeEvict key value left) = rules.pinned key value ≡ false
IsOfUnpinned rules (EvictHot key value) = Unit {0}
IsOfUnpinned rules (EvictCold key value) = Unit {0}

module _ (K V F M : Type 0) (equal : K → K → Bool) (shows_key : K → K → Type 0)
    (shows : V → V → Type 0) (may_count : ℕ → Type 0) where
  -- in no run is a pinned pair a victim, or turned away for its weight
  abbrev pub PinnedPairsAreNoVictims : Type 0
  PinnedPairsAreNoVictims = WhateverCalls K V F M equal shows_key shows may_count
      (λ rules answers. (old new : CacheState K V)
      (calls : List (Call K V F)) (replies : List (Reply K V M)) (hook_calls : List (HookCall K V))
      → IsRun K V F M equal shows_key shows may_count rules answers old calls replies hook_calls new
      → AllByRecursion (IsOfUnpinned rules) hook_calls)
