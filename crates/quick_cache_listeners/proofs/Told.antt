-- What the hooks of victims and of writes tell.
use Rattle.std.proofs.Common.{◌≡◌, ℕ, Bool, List, [], ◌∷◌, ◌++◌, refl, ap}
use Rattle.quick_cache_model.specs.declared.queue.Queue.{Queue}
use Rattle.quick_cache_model.specs.CacheState.{CacheState, Item}
use Rattle.quick_cache_model.specs.Hooks.{Rules, HookCall, BeforeEvict, evicted}
use Rattle.quick_cache_model.specs.Eviction.{EvictsVictim, AdvancesHot, EvictsToTarget, AdvancesCold, EvictsToCapacity}
use Rattle.quick_cache_listeners.specs.declared.causes.cause.Stage.{Stage}
use Rattle.quick_cache_listeners.specs.declared.causes.cause.Cause.{Cause}
use Rattle.quick_cache_listeners.specs.Causes.{told, evictions}

-- the calls of victims, one after another
pub data AreEvictions {K V : Type 0} : List (HookCall K V) → Type 0 where
  none : AreEvictions []
  stays : (key : K) (value left : V) (rest : List (HookCall K V)) → AreEvictions rest
      → AreEvictions (BeforeEvict key value left ∷ rest)
  leaves : (queue : Queue) (key : K) (value left : V) (rest : List (HookCall K V))
      → AreEvictions rest
      → AreEvictions (BeforeEvict key value left ∷ evicted queue key left ∷ rest)

module _ {K V : Type 0} where
  pub AreEvictions-append : (first rest : List (HookCall K V)) → AreEvictions first
      → AreEvictions rest → AreEvictions (first ++ rest)
  AreEvictions-append _ rest AreEvictions.none then = then
  AreEvictions-append _ rest (AreEvictions.stays key value left more are) then =
      AreEvictions.stays key value left (more ++ rest) (AreEvictions-append more rest are then)
  AreEvictions-append _ rest (AreEvictions.leaves Queue.Hot key value left more are) then =
      AreEvictions.leaves Queue.Hot key value left (more ++ rest)
      (AreEvictions-append more rest are then)
  AreEvictions-append _ rest (AreEvictions.leaves Queue.Cold key value left more are) then =
      AreEvictions.leaves Queue.Cold key value left (more ++ rest)
      (AreEvictions-append more rest are then)

  pub AreEvictions-told : (stage : Stage) (calls : List (HookCall K V)) → AreEvictions calls
      → told stage calls ≡ evictions calls
  AreEvictions-told stage _ AreEvictions.none = refl
  AreEvictions-told stage _ (AreEvictions.stays key value left rest are) =
      AreEvictions-told Stage.Armed rest are
  AreEvictions-told stage _ (AreEvictions.leaves Queue.Hot key value left rest are) =
      ap (λ more. (key, left, Cause.EvictedHot) ∷ more) (AreEvictions-told Stage.Told rest are)
  AreEvictions-told stage _ (AreEvictions.leaves Queue.Cold key value left rest are) =
      ap (λ more. (key, left, Cause.EvictedCold) ∷ more) (AreEvictions-told Stage.Told rest are)

module _ {K V : Type 0} (rules : Rules K V) where
  EvictsVictim-evictions : (queue : Queue) (old new : CacheState K V) (item : Item K V)
      (calls : List (HookCall K V)) → EvictsVictim rules queue old item calls new
      → AreEvictions calls
  EvictsVictim-evictions queue old _ item _ (EvictsVictim.stays left weightless) =
      AreEvictions.stays item.key item.value left [] AreEvictions.none
  EvictsVictim-evictions queue old _ item _ (EvictsVictim.leaves left weighs) =
      AreEvictions.leaves queue item.key item.value left [] AreEvictions.none

  AdvancesHot-evictions : (old new : CacheState K V) (answer : Bool) (calls : List (HookCall K V))
      → AdvancesHot rules old answer calls new → AreEvictions calls
  AdvancesHot-evictions old _ _ _ (AdvancesHot.all_pinned hot raised pinned) = AreEvictions.none
  AdvancesHot-evictions old _ _ _ (AdvancesHot.evicts hot before item after calls new raised split
      first evicts) = EvictsVictim-evictions Queue.Hot _ new _ calls evicts

  EvictsToTarget-evictions : (old new : CacheState K V) (calls : List (HookCall K V))
      → EvictsToTarget rules old calls new → AreEvictions calls
  EvictsToTarget-evictions _ _ _ (EvictsToTarget.has_room old fits) = AreEvictions.none
  EvictsToTarget-evictions _ _ _ (EvictsToTarget.gives_up old new calls above advances) =
      AdvancesHot-evictions old new _ calls advances
  EvictsToTarget-evictions _ _ _ (EvictsToTarget.goes_on old mid new first rest above advances
      goes) =
      AreEvictions-append first rest (AdvancesHot-evictions old mid _ first advances)
      (EvictsToTarget-evictions mid new rest goes)

  AdvancesCold-evictions : (old new : CacheState K V) (answer : Bool) (calls : List (HookCall K V))
      → AdvancesCold rules old answer calls new → AreEvictions calls
  AdvancesCold-evictions old _ _ _ (AdvancesCold.promotes cold before item after calls new raised
      split passed marked goes) = EvictsToTarget-evictions _ new calls goes
  AdvancesCold-evictions old _ _ _ (AdvancesCold.evicts cold before item after calls new raised split
      passed unmarked unpinned evicts) = EvictsVictim-evictions Queue.Cold _ new _ calls evicts
  AdvancesCold-evictions old _ _ _ (AdvancesCold.passes_all cold answer calls new raised passed
      advances) = AdvancesHot-evictions _ new answer calls advances

  pub EvictsToCapacity-evictions : (need : ℕ) (old new : CacheState K V)
      (calls : List (HookCall K V)) → EvictsToCapacity rules need old calls new
      → AreEvictions calls
  EvictsToCapacity-evictions need _ _ _ (EvictsToCapacity.has_room old fits) = AreEvictions.none
  EvictsToCapacity-evictions need _ _ _ (EvictsToCapacity.gives_up old new calls above advances) =
      AdvancesCold-evictions old new _ calls advances
  EvictsToCapacity-evictions need _ _ _ (EvictsToCapacity.goes_on old mid new first rest above
      advances goes) =
      AreEvictions-append first rest (AdvancesCold-evictions old mid _ first advances)
      (EvictsToCapacity-evictions need mid new rest goes)
