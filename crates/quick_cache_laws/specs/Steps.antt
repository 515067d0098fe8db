-- A step of a cache is one call of any kind. What holds over any list of steps.
use Rattle.std.specs.Prelude.{◌≡◌, ℕ, Bool, List, Option}
use Rattle.quick_cache_model.specs.CacheState.{CacheState, Item, LoadingEntry, Place, IsValid, empty_state, SameButOrder}
use Rattle.quick_cache_model.specs.Hooks.{Rules, HookCall}
use Rattle.quick_cache_model.specs.Finding.{IsItemAt}
use Rattle.quick_cache_model.specs.Writes.{Strategy, Writes}
use Rattle.quick_cache_model.specs.Placeholders.{MakesPlaceholder, MeetsPlaceholder, FillsPlaceholder, GivesUpPlaceholder, IsLoadingTicket}
use Rattle.quick_cache_model.specs.Placeholders.{HasNoTicket}
use Rattle.quick_cache_model.specs.Lookups.{LooksUp}
use Rattle.quick_cache_model.specs.Removal.{Removes, RemovesIf, Retains, Drains, reweighed}
use Rattle.quick_cache_model.specs.Entries.{EntryChoice, EntryOutcome, ActsOnEntry}
use Rattle.quick_cache_model.specs.Sizes.{IsSized, hot_target_of, ghost_limit_of}
use Rattle.quick_cache_model.specs.Capacity.{SetsCapacity}
use Rattle.quick_cache_laws.specs.Laws.{WhateverRules, IsQueryOf}

module _ {K V : Type 0} (equal : K → K → Bool) (rules : Rules K V) where
  -- one call, or another order of what has none
  pub data Step (old : CacheState K V) : CacheState K V → Type 0 where
    writes : (key : K) (strategy : Strategy) (value : V) (calls : List (HookCall K V))
        (answer : Option (K × V)) (new : CacheState K V)
        → Writes rules (equal key) key strategy old value calls answer new → Step old new
    makes : (stands_for : K → Bool) (hash : ℕ) (key : K) (new : CacheState K V)
        → IsQueryOf equal stands_for key
        → MakesPlaceholder stands_for old hash key new → Step old new
    meets : (stands_for : K → Bool) (ticket : ℕ) (new : CacheState K V)
        → MeetsPlaceholder stands_for old ticket new → Step old new
    fills : (ticket : ℕ) (marked : Bool) (value : V) (calls : List (HookCall K V))
        (answer : Option V) (new : CacheState K V)
        → FillsPlaceholder ticket old rules marked value calls answer new → Step old new
    gives_up : (ticket : ℕ) (new : CacheState K V) → GivesUpPlaceholder ticket old new
        → Step old new
    looks_up : (stands_for : K → Bool) (shown : Option V) (new : CacheState K V)
        → LooksUp stands_for old (λ item. item.value) shown new → Step old new
    removes : (stands_for : K → Bool) (hash : ℕ) (answer : Option (K × V)) (new : CacheState K V)
        → Removes stands_for old hash answer new → Step old new
    removes_if : (stands_for : K → Bool) (passes : V → Bool) (answer : Option (K × V))
        (new : CacheState K V) → RemovesIf stands_for old passes answer new → Step old new
    retains : (keeps : K → V → Bool) (new : CacheState K V) → Retains keeps old new → Step old new
    drains : (pairs : List (K × V)) (new : CacheState K V) → Drains old pairs new → Step old new
    acts : (stands_for : K → Bool) (item : Item K V) (left : V) (choice : EntryChoice)
        (outcome : EntryOutcome) (new : CacheState K V)
        → ActsOnEntry rules stands_for old item left choice outcome new → Step old new
    reweighs : (stands_for : K → Bool) (place : Place) (before : List (Item K V)) (item : Item K V)
        (after : List (Item K V)) (left : V) → IsItemAt stands_for old place before item after
        → Step old (reweighed rules place before item after left old)
    sets_capacity : (capacity : ℕ) (calls : List (HookCall K V)) (new : CacheState K V)
        → SetsCapacity rules capacity old calls new → Step old new
    orders : (new : CacheState K V) → SameButOrder old new → Step old new

  -- any list of steps
  pub data Steps : CacheState K V → CacheState K V → Type 0 where
    done : (state : CacheState K V) → Steps state state
    goes_on : (old mid new : CacheState K V) → Step old mid → Steps mid new → Steps old new

module _ (K V : Type 0) where
  -- the sizes of a new cache are as its options make them
  abbrev pub NewCachesAreSized : Type 0
  NewCachesAreSized =
      (capacity hot_share items ghost_share : ℕ)
      → IsSized (empty_state {K = K} {V = V} capacity (hot_target_of capacity hot_share)
      (ghost_limit_of items ghost_share))

  module _ (equal : K → K → Bool) (may_count : ℕ → Type 0) where
    -- a new weight that a reference leaves keeps a state valid
    abbrev pub NewWeightsStayValid : Type 0
    NewWeightsStayValid =
        WhateverRules K V may_count (λ rules. (stands_for : K → Bool) (place : Place)
        (before : List (Item K V)) (item : Item K V) (after : List (Item K V)) (left : V)
        (old : CacheState K V) → IsItemAt stands_for old place before item after
        → IsValid equal old → IsValid equal (reweighed rules place before item after left old))

    -- steps lead from a valid state to valid ones
    abbrev pub StepsStayValid : Type 0
    StepsStayValid =
        WhateverRules K V may_count (λ rules. (old new : CacheState K V) → Steps equal rules old new
        → IsValid equal old → IsValid equal new)

    -- and from a cache that is sized to such
    abbrev pub StepsStaySized : Type 0
    StepsStaySized =
        WhateverRules K V may_count (λ rules. (old new : CacheState K V) → Steps equal rules old new
        → IsSized old → IsSized new)

    -- and never change the greatest mark
    abbrev pub StepsKeepTheCut : Type 0
    StepsKeepTheCut =
        WhateverRules K V may_count (λ rules. (old new : CacheState K V) → Steps equal rules old new
        → new.mark_cut ≡ old.mark_cut)

    -- A placeholder has a ticket. Once it is gone, whichever way, none has that ticket again.
    abbrev pub TicketsNeverReturn : Type 0
    TicketsNeverReturn =
        WhateverRules K V may_count (λ rules. (ticket : ℕ) (old mid new : CacheState K V)
        (before : List (LoadingEntry K)) (entry : LoadingEntry K) (after : List (LoadingEntry K))
        → IsValid equal old → IsLoadingTicket ticket old before entry after
        → Steps equal rules old mid → HasNoTicket ticket mid
        → Steps equal rules mid new → HasNoTicket ticket new)
