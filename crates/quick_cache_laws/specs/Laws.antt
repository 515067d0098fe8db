-- Laws of the definitions, and the words in which they are stated.
use Rattle.std.specs.Prelude.{◌≡◌, ℕ, ◌+◌, ◌*◌, ◌<◌, ◌≤◌, ◌⊎◌, Bool, true, List, [], ◌++◌, Option, None, length, count_by}
use Rattle.std.specs.List.{AllByRecursion}
use Rattle.quick_cache_model.specs.CacheState.{CacheState, Item, Place, empty_state, keys_by, total_weight, IsValid, SameButOrder}
use Rattle.quick_cache_model.specs.CacheState.{UpToOrder}
use Rattle.quick_cache_model.specs.Hooks.{Rules, HookCall, BeforeEvict, EvictHot, EvictCold, Hooks}
use Rattle.quick_cache_model.specs.Finding.{Found, IsItemAt, HasNoItem, Finds}
use Rattle.quick_cache_model.specs.Eviction.{AdvancesCold, EvictsToCapacity}
use Rattle.quick_cache_model.specs.Writes.{Strategy, Writes}
use Rattle.quick_cache_model.specs.Placeholders.{MakesPlaceholder, MeetsPlaceholder, FillsPlaceholder, GivesUpPlaceholder}
use Rattle.quick_cache_model.specs.Lookups.{Sees, LooksUp}
use Rattle.quick_cache_model.specs.Removal.{Removes, RemovesIf, Retains, cleared}
use Rattle.quick_cache_model.specs.Entries.{EntryChoice, ReplaceWithGuard, ActsOnEntry, EntryOutcome, Refused, outcome_of}
use Rattle.quick_cache_model.specs.Refusals.{HasTicket, last_ticket}
use Rattle.quick_cache_model.specs.declared.refusal.Refusal.{Refusal}
use Rattle.quick_cache_model.specs.Capacity.{SetsCapacity}
use Rattle.quick_cache_model.specs.Sizes.{IsSized}

-- what each advance that answers yes lowers: an item of the cold ring can become one of the hot
-- ring, and then leave
abbrev pub ring_measure : {K V : Type 0} → CacheState K V → ℕ
ring_measure state = length state.hot + 2 * length state.cold

-- how many items have a pair that passes the test
abbrev pub pairs_by : {K V : Type 0} → (K → V → Bool) → CacheState K V → ℕ
pairs_by test state =
    count_by (λ item. test item.key item.value) state.hot + count_by
    (λ item. test item.key item.value) state.cold
    + count_by (λ item. test item.key item.value) state.still

-- a test that none but pinned pairs pass
abbrev pub IsPinnedTest : {K V : Type 0} → Rules K V → (K → V → Bool) → Type 0
IsPinnedTest {K} {V} rules test = (key : K) (value : V) → test key value ≡ true
    → rules.pinned key value ≡ true

-- each item of the rings is pinned
pub record AreRingsPinned {K V : Type 0} (rules : Rules K V) (state : CacheState K V) : Type 0 where
  pub hot : AllByRecursion (λ item. rules.pinned item.key item.value ≡ true) state.hot
  pub cold : AllByRecursion (λ item. rules.pinned item.key item.value ≡ true) state.cold

-- Each hook can be called from any request state, with any pair: its relation leads somewhere, and
-- leaves some value.
pub record CanCallHooks {K V S : Type 0} (hooks : Hooks K V S) : Type 0 where
  pub before_evict : (first : S) (key : K) (value : V) → (last : S) × (left : V)
      × hooks.before_evict first key value last left
  pub evict_hot : (first : S) (key : K) (value : V) → (last : S)
      × hooks.evict_hot first key value last
  pub evict_cold : (first : S) (key : K) (value : V) → (last : S)
      × hooks.evict_cold first key value last

-- `before_evict` left the value that this function says
abbrev pub LeavesSo : {K V : Type 0} → (K → V → V) → HookCall K V → Type 0
LeavesSo leaves (BeforeEvict key value left) = left ≡ leaves key value
LeavesSo leaves (EvictHot _ _) = Unit {0}
LeavesSo leaves (EvictCold _ _) = Unit {0}

-- and so in each of these calls
abbrev pub LeavesBy : {K V : Type 0} → (K → V → V) → List (HookCall K V) → Type 0
LeavesBy leaves calls = AllByRecursion (LeavesSo leaves) calls

-- two keys that a query stands for are equal
abbrev pub IsQuery : {K : Type 0} → (equal : K → K → Bool) (stands_for : K → Bool) → Type 0
IsQuery {K} equal stands_for = (first second : K) → stands_for first ≡ true
    → stands_for second ≡ true → equal first second ≡ true

-- a query stands for exactly the keys that are equal to this one
abbrev pub IsQueryOf : {K : Type 0} → (equal : K → K → Bool) (stands_for : K → Bool) (key : K)
    → Type 0
IsQueryOf {K} equal stands_for key = (other : K) → stands_for other ≡ equal key other

module _ (K V : Type 0) where
  -- whatever the rules of a cache in which these counts of touches may be
  abbrev pub WhateverRules : (ℕ → Type 0) → (Rules K V → Type 0) → Type 0
  WhateverRules may_count P =
      (hash : K → ℕ) (weight : K → V → ℕ) (pinned : K → V → Bool)
      → P (record { hash = hash; weight = weight; pinned = pinned; may_count = may_count })

  -- Whatever the rules, where more counts of touches may be than in another cache: what that one
  -- may do, this one may do.
  abbrev pub WhateverTouches : (few many : ℕ → Type 0) → (Rules K V → Rules K V → Type 0) → Type 0
  WhateverTouches few many P =
      ((n : ℕ) → few n → many n) → (hash : K → ℕ) (weight : K → V → ℕ) (pinned : K → V → Bool)
      → P (record { hash = hash; weight = weight; pinned = pinned; may_count = few })
      (record { hash = hash; weight = weight; pinned = pinned; may_count = many })

  -- a write that a cache of one thread may make is one that a shared cache may make
  abbrev pub LoneWritesAreShared : (few many : ℕ → Type 0) → Type 0
  LoneWritesAreShared few many =
      WhateverTouches few many (λ lone shared. (equal_to : K → Bool) (key : K) (strategy : Strategy)
      (old : CacheState K V) (value : V) (calls : List (HookCall K V))
      (answer : Option (K × V)) (new : CacheState K V)
      → Writes lone equal_to key strategy old value calls answer new
      → Writes shared equal_to key strategy old value calls answer new)

  -- so is a placeholder that is filled
  abbrev pub LoneFillsAreShared : (few many : ℕ → Type 0) → Type 0
  LoneFillsAreShared few many =
      WhateverTouches few many (λ lone shared. (ticket : ℕ) (marked : Bool) (old : CacheState K V)
      (value : V) (calls : List (HookCall K V)) (answer : Option V)
      (new : CacheState K V) → FillsPlaceholder ticket old lone marked value calls answer new
      → FillsPlaceholder ticket old shared marked value calls answer new)

  -- and a capacity that is set
  abbrev pub LoneCapacitiesAreShared : (few many : ℕ → Type 0) → Type 0
  LoneCapacitiesAreShared few many =
      WhateverTouches few many (λ lone shared. (capacity : ℕ) (old : CacheState K V)
      (calls : List (HookCall K V)) (new : CacheState K V)
      → SetsCapacity lone capacity old calls new → SetsCapacity shared capacity old calls new)

  -- making room brings no key
  abbrev pub EvictionBringsNoKey : (ℕ → Type 0) → Type 0
  EvictionBringsNoKey may_count =
      WhateverRules may_count (λ rules.
      (need : ℕ) (old new : CacheState K V) (calls : List (HookCall K V))
      → EvictsToCapacity rules need old calls new
      → (test : K → Bool) → keys_by test new ≤ keys_by test old)

  -- where there can be no touches, and `before_evict` leaves a value by the pair alone, room is
  -- made in one way
  abbrev pub EvictionIsDetermined : (ℕ → Type 0) → Type 0
  EvictionIsDetermined may_count =
      WhateverRules may_count (λ rules. ((n : ℕ) → rules.may_count n → n ≡ 0)
      → (leaves : K → V → V) (need : ℕ) (old : CacheState K V) (one two : List (HookCall K V))
      (new other : CacheState K V) → EvictsToCapacity rules need old one new
      → EvictsToCapacity rules need old two other
      → LeavesBy leaves one → LeavesBy leaves two → (one ≡ two) × (new ≡ other))

  -- an item without weight stays where it is when room is made
  abbrev pub WeightlessItemsStay : (ℕ → Type 0) → Type 0
  WeightlessItemsStay may_count =
      WhateverRules may_count (λ rules.
      (need : ℕ) (old new : CacheState K V) (calls : List (HookCall K V))
      → EvictsToCapacity rules need old calls new
      → (more : List (Item K V)) × (new.still ≡ old.still ++ more))

  -- a pinned pair does not leave when room is made
  abbrev pub PinnedPairsStay : (ℕ → Type 0) → Type 0
  PinnedPairsStay may_count =
      WhateverRules may_count (λ rules.
      (need : ℕ) (old new : CacheState K V) (calls : List (HookCall K V))
      → EvictsToCapacity rules need old calls new
      → (test : K → V → Bool) → IsPinnedTest rules test → pairs_by test old ≤ pairs_by test new)

  -- an advance that answers yes lowers the measure of the rings
  abbrev pub AdvancesLowerTheMeasure : (ℕ → Type 0) → Type 0
  AdvancesLowerTheMeasure may_count =
      WhateverRules may_count (λ rules. (old new : CacheState K V) (calls : List (HookCall K V))
      → AdvancesCold rules old true calls new
      → ring_measure new < ring_measure old)

  -- room was made, or each item of the rings is pinned
  abbrev pub EvictionMakesRoom : (ℕ → Type 0) → Type 0
  EvictionMakesRoom may_count =
      WhateverRules may_count (λ rules.
      (need : ℕ) (old new : CacheState K V) (calls : List (HookCall K V))
      → EvictsToCapacity rules need old calls new
      → (total_weight new + need ≤ new.capacity) ⊎ AreRingsPinned rules new)

  -- room can be made in every state
  abbrev pub EvictionEnds : (ℕ → Type 0) → Type 0
  EvictionEnds may_count =
      WhateverRules may_count (λ rules. (need : ℕ) (old : CacheState K V)
      → (calls : List (HookCall K V)) × (new : CacheState K V)
      × EvictsToCapacity rules need old calls new)

  -- the present capacity changes no size
  abbrev pub PresentCapacityKeepsSizes : (ℕ → Type 0) → Type 0
  PresentCapacityKeepsSizes may_count =
      WhateverRules may_count (λ rules. (old new : CacheState K V) (calls : List (HookCall K V))
      → SetsCapacity rules old.capacity old calls new → IsSized old
      → (new.capacity ≡ old.capacity) × (new.hot_target ≡ old.hot_target)
      × (new.ghost_limit ≡ old.ghost_limit))

  -- and nothing at all where the items have room and the ghosts are within their limit
  abbrev pub PresentCapacityChangesNothing : (ℕ → Type 0) → Type 0
  PresentCapacityChangesNothing may_count =
      WhateverRules may_count (λ rules. (old new : CacheState K V) (calls : List (HookCall K V))
      → SetsCapacity rules old.capacity old calls new → IsSized old
      → total_weight old ≤ old.capacity → length old.ghosts ≤ old.ghost_limit → (new ≡ old)
      × (calls ≡ []))

  -- a write can be made in every state
  abbrev pub WritesCanBeMade : (ℕ → Type 0) → Type 0
  WritesCanBeMade may_count =
      WhateverRules may_count (λ rules.
      (equal_to : K → Bool) (key : K) (strategy : Strategy) (old : CacheState K V) (value : V)
      → (calls : List (HookCall K V)) × (answer : Option (K × V)) × (new : CacheState K V)
      × Writes rules equal_to key strategy old value calls answer new)

  -- a placeholder can be filled, be it there or gone
  abbrev pub PlaceholdersCanBeFilled : (ℕ → Type 0) → Type 0
  PlaceholdersCanBeFilled may_count =
      WhateverRules may_count (λ rules.
      (ticket : ℕ) (marked : Bool) (old : CacheState K V) (value : V)
      → (calls : List (HookCall K V)) × (answer : Option V) × (new : CacheState K V)
      × FillsPlaceholder ticket old rules marked value calls answer new)

  -- where a query finds no item, a placeholder can be made for a key that it stands for, or met
  abbrev pub PlaceholdersCanBeTaken : Type 0
  PlaceholdersCanBeTaken =
      (stands_for : K → Bool) (hash : ℕ) (key : K) (old : CacheState K V) → stands_for key ≡ true
      → HasNoItem stands_for old
      → ((new : CacheState K V) × MakesPlaceholder stands_for old hash key new)
      ⊎ ((ticket : ℕ) × (new : CacheState K V) × MeetsPlaceholder stands_for old ticket new)

  -- a look-up can be made
  abbrev pub LookupsCanBeMade : Type 0
  LookupsCanBeMade =
      (stands_for : K → Bool) (old : CacheState K V) → (shown : Option V) × (new : CacheState K V)
      × LooksUp stands_for old (λ item. item.value) shown new

  -- a removal can be made
  abbrev pub RemovalsCanBeMade : Type 0
  RemovalsCanBeMade =
      (stands_for : K → Bool) (hash : ℕ) (old : CacheState K V) → (answer : Option (K × V))
      × (new : CacheState K V) × Removes stands_for old hash answer new

  -- while there are tickets, an item that is there can be acted on, whatever the callback leaves
  -- and chooses, and what it chose can come of it
  abbrev pub EntriesCanBeActedOn : (ℕ → Type 0) → Type 0
  EntriesCanBeActedOn may_count =
      WhateverRules may_count (λ rules.
      (stands_for : K → Bool) (old : CacheState K V) (place : Place)
      (before : List (Item K V)) (item : Item K V) (after : List (Item K V))
      → IsItemAt stands_for old place before item after → HasTicket old
      → (left : V) (choice : EntryChoice) → (new : CacheState K V)
      × ActsOnEntry rules stands_for old item left choice (outcome_of choice) new)

  -- while there are tickets, nothing but want of memory refuses an entry call
  abbrev pub EntriesAreRefusedForMemory : (ℕ → Type 0) → Type 0
  EntriesAreRefusedForMemory may_count =
      WhateverRules may_count (λ rules.
      (stands_for : K → Bool) (old : CacheState K V) (item : Item K V)
      (left : V) (choice : EntryChoice) (refusal : Refusal) (new : CacheState K V)
      → ActsOnEntry rules stands_for old item left choice (Refused refusal) new → HasTicket old
      → refusal ≡ Refusal.Memory)

  -- once the tickets are spent, no entry call replaces
  abbrev pub EntriesAreRefusedForTickets : (ℕ → Type 0) → Type 0
  EntriesAreRefusedForTickets may_count =
      WhateverRules may_count (λ rules.
      (stands_for : K → Bool) (old : CacheState K V) (item : Item K V)
      (left : V) (outcome : EntryOutcome) (new : CacheState K V)
      → ActsOnEntry rules stands_for old item left ReplaceWithGuard outcome new
      → last_ticket ≤ old.next_ticket → outcome ≡ Refused Refusal.TicketsSpent)

  -- the capacity can be set in every state
  abbrev pub CapacitiesCanBeSet : (ℕ → Type 0) → Type 0
  CapacitiesCanBeSet may_count =
      WhateverRules may_count (λ rules. (capacity : ℕ) (old : CacheState K V)
      → (calls : List (HookCall K V)) × (new : CacheState K V)
      × SetsCapacity rules capacity old calls new)

  -- every query finds an item, a placeholder, a ghost or nothing
  abbrev pub QueriesFindSomething : Type 0
  QueriesFindSomething = (stands_for : K → Bool) (hash : ℕ) (state : CacheState K V)
      → (found : Found K V) × Finds stands_for hash state found

  -- a second retain by the same test removes nothing, whatever order the first left
  abbrev pub SecondRetainsRemoveNothing : Type 0
  SecondRetainsRemoveNothing = (keeps : K → V → Bool) (old mid new : CacheState K V)
      → UpToOrder (λ state. Retains keeps old state) mid
      → UpToOrder (λ state. Retains keeps mid state) new → SameButOrder mid new

  module _ (equal : K → K → Bool) where
    -- a query has at most one entry in a valid state
    abbrev pub QueriesHaveOneEntry : Type 0
    QueriesHaveOneEntry = (stands_for : K → Bool) (state : CacheState K V)
        → IsQuery equal stands_for → IsValid equal state → keys_by stands_for state ≤ 1

    -- a look at a key and a look-up show the same value
    abbrev pub LooksShowTheSame : Type 0
    LooksShowTheSame =
        (stands_for : K → Bool) (old new : CacheState K V) (seen shown : Option V)
        → IsQuery equal stands_for → IsValid equal old
        → Sees stands_for old (λ item. item.value) seen
        → LooksUp stands_for old (λ item. item.value) shown new → seen ≡ shown

    -- a key that was removed is not there to be removed again, whatever order the first left
    abbrev pub SecondRemovalsFindNothing : Type 0
    SecondRemovalsFindNothing =
        (stands_for : K → Bool) (hash : ℕ) (old mid new : CacheState K V)
        (first second : Option (K × V)) → IsQuery equal stands_for → IsValid equal old
        → UpToOrder (λ state. Removes stands_for old hash first state) mid
        → UpToOrder (λ state. Removes stands_for mid hash second state) new
        → second ≡ None

    -- each call leads from a valid state to a valid one: a write
    abbrev pub WritesStayValid : (ℕ → Type 0) → Type 0
    WritesStayValid may_count =
        WhateverRules may_count (λ rules.
        (key : K) (strategy : Strategy) (old : CacheState K V) (value : V)
        (new : CacheState K V) (calls : List (HookCall K V)) (answer : Option (K × V))
        → Writes rules (equal key) key strategy old value calls answer new → IsValid equal old
        → IsValid equal new)

    -- a cache that nothing was put into
    abbrev pub NewCachesAreValid : Type 0
    NewCachesAreValid = (capacity hot_target ghost_limit : ℕ)
        → IsValid equal (empty_state {K = K} {V = V} capacity hot_target ghost_limit)

    -- a state that is the same but for the order of what has none
    abbrev pub OtherOrdersAreValid : Type 0
    OtherOrdersAreValid = (old new : CacheState K V) → SameButOrder old new → IsValid equal old
        → IsValid equal new

    -- a placeholder that is made
    abbrev pub PlaceholdersStayValid : Type 0
    PlaceholdersStayValid =
        (stands_for : K → Bool) (hash : ℕ) (key : K) (old new : CacheState K V)
        → IsQueryOf equal stands_for key
        → MakesPlaceholder stands_for old hash key new → IsValid equal old → IsValid equal new

    -- one that is met
    abbrev pub MeetingsStayValid : Type 0
    MeetingsStayValid =
        (stands_for : K → Bool) (ticket : ℕ) (old new : CacheState K V)
        → MeetsPlaceholder stands_for old ticket new → IsValid equal old → IsValid equal new

    -- one that is filled
    abbrev pub FillsStayValid : (ℕ → Type 0) → Type 0
    FillsStayValid may_count =
        WhateverRules may_count (λ rules.
        (ticket : ℕ) (marked : Bool) (old new : CacheState K V) (value : V)
        (calls : List (HookCall K V)) (answer : Option V)
        → FillsPlaceholder ticket old rules marked value calls answer new → IsValid equal old
        → IsValid equal new)

    -- one that is given up
    abbrev pub GiveUpsStayValid : Type 0
    GiveUpsStayValid = (ticket : ℕ) (old new : CacheState K V) → GivesUpPlaceholder ticket old new
        → IsValid equal old → IsValid equal new

    -- a look-up
    abbrev pub LookupsStayValid : Type 0
    LookupsStayValid =
        (stands_for : K → Bool) (old new : CacheState K V) (shown : Option V)
        → LooksUp stands_for old (λ item. item.value) shown new → IsValid equal old
        → IsValid equal new

    -- a removal
    abbrev pub RemovalsStayValid : Type 0
    RemovalsStayValid =
        (stands_for : K → Bool) (hash : ℕ) (old new : CacheState K V) (answer : Option (K × V))
        → Removes stands_for old hash answer new → IsValid equal old → IsValid equal new

    -- a removal by a test
    abbrev pub RemovalsByTestStayValid : Type 0
    RemovalsByTestStayValid =
        (stands_for : K → Bool) (passes : V → Bool) (old new : CacheState K V)
        (answer : Option (K × V))
        → RemovesIf stands_for old passes answer new → IsValid equal old → IsValid equal new

    -- a clear or a drain
    abbrev pub EmptiedCachesAreValid : Type 0
    EmptiedCachesAreValid = (state : CacheState K V) → IsValid equal (cleared state)

    -- a retain
    abbrev pub RetainsStayValid : Type 0
    RetainsStayValid = (keeps : K → V → Bool) (old new : CacheState K V) → Retains keeps old new
        → IsValid equal old → IsValid equal new

    -- an entry call
    abbrev pub EntriesStayValid : (ℕ → Type 0) → Type 0
    EntriesStayValid may_count =
        WhateverRules may_count (λ rules.
        (stands_for : K → Bool) (old : CacheState K V) (item : Item K V)
        (left : V) (choice : EntryChoice) (outcome : EntryOutcome) (new : CacheState K V)
        → ActsOnEntry rules stands_for old item left choice outcome new → IsValid equal old
        → IsValid equal new)

    -- a new capacity
    abbrev pub CapacitiesStayValid : (ℕ → Type 0) → Type 0
    CapacitiesStayValid may_count =
        WhateverRules may_count (λ rules. (capacity : ℕ) (old new : CacheState K V)
        (calls : List (HookCall K V))
        → SetsCapacity rules capacity old calls new → IsValid equal old → IsValid equal new)
