-- What a pair that passed its admission check can count on: laws on writes and on fills.
use Rattle.std.specs.Prelude.{◌≡◌, ℕ, ◌+◌, ◌<◌, ◌≤◌, Bool, List, ◌∷◌, ◌++◌, Option, None, sum_by, if◌then◌else◌}
use Rattle.quick_cache_model.specs.CacheState.{CacheState, Item, LoadingEntry, Place, items_at, IsValid, UpToOrder}
use Rattle.quick_cache_model.specs.Hooks.{Rules, HookCall}
use Rattle.quick_cache_model.specs.Finding.{HasNothing}
use Rattle.quick_cache_model.specs.Eviction.{pinned}
use Rattle.quick_cache_model.specs.Admission.{PassesCheck}
use Rattle.quick_cache_model.specs.Writes.{Strategy, Insert, Writes}
use Rattle.quick_cache_model.specs.Placeholders.{IsLoadingTicket, FillsPlaceholder}
use Rattle.quick_cache_laws.specs.Laws.{WhateverRules}

module _ {K V : Type 0} where
  -- the weight of those items of a list that are not pinned
  abbrev pub unpinned_weight_of : Rules K V → List (Item K V) → ℕ
  unpinned_weight_of rules items =
      sum_by (λ item. if pinned rules item then 0 else item.weight) items

  -- the weight of all items that are not pinned
  abbrev pub unpinned_weight : Rules K V → CacheState K V → ℕ
  unpinned_weight rules state =
      unpinned_weight_of rules state.hot + unpinned_weight_of rules state.cold

  -- the pair is an item of the cache
  pub record HoldsPair (key : K) (value : V) (state : CacheState K V) : Type 0 where
    pub place : Place
    pub before : List (Item K V)
    pub item : Item K V
    pub after : List (Item K V)
    pub split : items_at place state ≡ before ++ item ∷ after
    pub of_key : item.key ≡ key
    pub of_value : item.value ≡ value

module _ (K V : Type 0) where
  -- After a write of a pair that passed its check, the items that are not pinned weigh at most the
  -- capacity, if the hot target was within it. Here and below a call may leave its step in another
  -- order of what has none.
  abbrev pub WritesStayWithinCapacity : (ℕ → Type 0) → Type 0
  WritesStayWithinCapacity may_count =
      WhateverRules K V may_count (λ rules. (equal_to : K → Bool) (key : K) (strategy : Strategy)
      (old new : CacheState K V) (value left : V) (calls : List (HookCall K V))
      → UpToOrder (λ state. Writes rules equal_to key strategy old value calls None state) new
      → PassesCheck rules old.hot_target key value calls left
      → old.hot_target ≤ old.capacity → unpinned_weight rules new ≤ new.capacity)

  -- After a fill whose value passed its check with a weight above 0, they do so, too.
  abbrev pub FillsStayWithinCapacity : (K → K → Bool) → (ℕ → Type 0) → Type 0
  FillsStayWithinCapacity equal may_count =
      WhateverRules K V may_count (λ rules. (ticket : ℕ) (marked : Bool) (old new : CacheState K V)
      (value left : V) (calls : List (HookCall K V))
      (before : List (LoadingEntry K)) (entry : LoadingEntry K) (after : List (LoadingEntry K))
      → IsValid equal old → IsLoadingTicket ticket old before entry after
      → UpToOrder (λ state. FillsPlaceholder ticket old rules marked value calls None state) new
      → PassesCheck rules old.hot_target entry.key value calls left
      → 0 < rules.weight entry.key left → unpinned_weight rules new ≤ new.capacity)

  -- An insert under a key of which nothing is found keeps a pair that passed its check: the key is
  -- there afterwards, with the value that the check left.
  abbrev pub InsertedPairsAreKept : (ℕ → Type 0) → Type 0
  InsertedPairsAreKept may_count =
      WhateverRules K V may_count (λ rules.
      (equal_to : K → Bool) (key : K) (old new : CacheState K V)
      (value left : V) (calls : List (HookCall K V)) (answer : Option (K × V))
      → UpToOrder (λ state. Writes rules equal_to key Insert old value calls answer state) new
      → HasNothing equal_to (rules.hash key) old
      → PassesCheck rules old.hot_target key value calls left
      → (answer ≡ None) × HoldsPair key left new)
