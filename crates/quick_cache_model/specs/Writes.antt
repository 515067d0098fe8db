-- Writes: what an insert and a replace do to what stands under the key.
use Rattle.std.specs.Prelude.{◌≡◌, ℕ, ◌+◌, Bool, List, [], ◌∷◌, ◌++◌, Option, Some, None, nat_le, if◌then◌else◌}
use Rattle.quick_cache_model.specs.declared.queue.Queue.{Queue}
use Rattle.quick_cache_model.specs.CacheState.{CacheState, Item, LoadingEntry, Place, hot_weight, entered, rewritten, with_items}
use Rattle.quick_cache_model.specs.Hooks.{Rules, HookCall, EvictCold, evicted}
use Rattle.quick_cache_model.specs.Touches.{TakesTouches, raised_by, first_mark}
use Rattle.quick_cache_model.specs.Finding.{IsItemAt, IsLoadingAt, IsGhostAt, HasNoItem, HasNothing}
use Rattle.quick_cache_model.specs.Eviction.{EvictsToCapacity}
use Rattle.quick_cache_model.specs.Admission.{Admitted, TooHeavy, ChecksAdmission}

-- An insert writes under any key, a replace only where an item stands; a soft replace is no use of
-- the item.
pub data Strategy : Type 0 where
  Insert : Strategy
  Replace : Strategy
  SoftReplace : Strategy

-- a replace of either kind
abbrev pub IsReplace : Strategy → Type 0
IsReplace Insert = ⊥
IsReplace Replace = Unit {0}
IsReplace SoftReplace = Unit {0}

-- the mark of an item that was written over
abbrev pub mark_after : (cut : ℕ) → Strategy → ℕ → ℕ
mark_after cut Insert mark = raised_by cut 1 mark
mark_after cut Replace mark = raised_by cut 1 mark
mark_after cut SoftReplace mark = mark

module _ {K V : Type 0} (equal_to : K → Bool) where
  -- an item under the key leaves its place, the order of the rest is kept, and the hook of its
  -- queue is told
  pub data TakesOutItem (old : CacheState K V) : List (HookCall K V) → CacheState K V → Type 0 where
    was_there : (place : Place) (before : List (Item K V)) (item : Item K V)
        (after : List (Item K V))
        → IsItemAt equal_to old place before item after
        → TakesOutItem old (evicted item.queue item.key item.value ∷ [])
        (with_items place (before ++ after) old)
    was_absent : HasNoItem equal_to old → TakesOutItem old [] old

  -- a pair that is too heavy takes the item under its key with it; an insert then tells the pair to
  -- the cold hook, and a replace gives it back
  pub data RejectsTooHeavy (key : K) (strategy : Strategy) (old : CacheState K V) (value : V)
      : List (HookCall K V) → Option (K × V) → CacheState K V → Type 0 where
    reports : (calls : List (HookCall K V)) (new : CacheState K V) → strategy ≡ Insert
        → TakesOutItem old calls new
        → RejectsTooHeavy key strategy old value (calls ++ EvictCold key value ∷ []) None new
    gives_back : (calls : List (HookCall K V)) (new : CacheState K V) → IsReplace strategy
        → TakesOutItem old calls new
        → RejectsTooHeavy key strategy old value calls (Some (key, value)) new

module _ {K V : Type 0} (rules : Rules K V) where
  -- the item that a pair becomes: it was never read
  abbrev pub new_item : K → V → Queue → ℕ → Item K V
  new_item key value queue mark = record {
    key = key;
    value = value;
    weight = rules.weight key value;
    mark = mark;
    reads = 0;
    queue = queue;
  }

  -- the queue of a pair that has no place yet: hot while it fits the target beside what is hot,
  -- else the given one
  abbrev pub queue_for : CacheState K V → K → V → Queue → Queue
  queue_for state key value otherwise =
      if nat_le (hot_weight state + rules.weight key value) state.hot_target then Queue.Hot else
      otherwise

  -- The key is known by the keys that it is equal to.
  module _ (equal_to : K → Bool) (key : K) where
    -- A pair that was admitted is written. The answer is the pair where it was not taken. Over
    -- nothing, room is made first, and its queue is chosen before that. Over an item, the pair
    -- takes its queue and its place, and the old pair is told to the hook. Over a ghost it is hot,
    -- whatever the target. Over a placeholder it has the placeholder's queue, and a mark. A replace
    -- of what is no item gives the pair back.
    pub data WritesAdmitted (strategy : Strategy) (old : CacheState K V) (value : V)
        : List (HookCall K V) → Option (K × V) → CacheState K V → Type 0 where
      inserts_new : (mid : CacheState K V) (calls : List (HookCall K V)) → strategy ≡ Insert
          → HasNothing equal_to (rules.hash key) old
          → EvictsToCapacity rules (rules.weight key value) old calls mid
          → WritesAdmitted strategy old value calls None
          (entered (new_item key value (queue_for old key value Queue.Cold) 0) mid)
      overwrites : (place : Place) (before : List (Item K V)) (item touched : Item K V)
          (after : List (Item K V))
          (calls : List (HookCall K V)) (new : CacheState K V)
          → IsItemAt equal_to old place before item after
          → TakesTouches old.mark_cut rules.may_count item touched
          → EvictsToCapacity rules 0
          (rewritten place before
          (new_item key value item.queue (mark_after old.mark_cut strategy touched.mark)) after old)
          calls new
          → WritesAdmitted strategy old value
          (evicted item.queue item.key item.value ∷ calls) None new
      inserts_over_ghost : (before after : List ℕ) (calls : List (HookCall K V))
          (new : CacheState K V)
          → strategy ≡ Insert → IsGhostAt equal_to (rules.hash key) old before after
          → EvictsToCapacity rules 0
          (entered (new_item key value Queue.Hot 0) (record old { ghosts = before ++ after })) calls
          new
          → WritesAdmitted strategy old value calls None new
      inserts_over_loading : (before : List (LoadingEntry K)) (entry : LoadingEntry K)
          (after : List (LoadingEntry K))
          (calls : List (HookCall K V)) (new : CacheState K V)
          → strategy ≡ Insert → IsLoadingAt equal_to old before entry after
          → EvictsToCapacity rules 0
          (entered (new_item key value entry.queue (first_mark old.mark_cut))
          (record old { loading = before ++ after })) calls new
          → WritesAdmitted strategy old value calls None new
      gives_back : IsReplace strategy → HasNoItem equal_to old
          → WritesAdmitted strategy old value [] (Some (key, value)) old

    -- The write of a pair: the admission check, and then one or the other.
    pub data Writes (strategy : Strategy) (old : CacheState K V) (value : V)
        : List (HookCall K V) → Option (K × V) → CacheState K V → Type 0 where
      admitted : (first rest : List (HookCall K V)) (left : V) (answer : Option (K × V))
          (new : CacheState K V)
          → ChecksAdmission rules old.hot_target key value first (Admitted left)
          → WritesAdmitted strategy old left rest answer new
          → Writes strategy old value (first ++ rest) answer new
      too_heavy : (first rest : List (HookCall K V)) (left : V) (answer : Option (K × V))
          (new : CacheState K V)
          → ChecksAdmission rules old.hot_target key value first (TooHeavy left)
          → RejectsTooHeavy equal_to key strategy old left rest answer new
          → Writes strategy old value (first ++ rest) answer new
