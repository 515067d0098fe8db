-- How room is made: victims, promotions, and the calls of the hooks.
use Rattle.std.specs.Prelude.{◌≡◌, ℕ, ◌+◌, ◌-◌, ◌<◌, ◌≤◌, Bool, true, false, List, [], ◌∷◌, ◌++◌, length, drop, map}
use Rattle.std.specs.List.{AllByRecursion}
use Rattle.quick_cache_model.specs.declared.queue.Queue.{Queue}
use Rattle.quick_cache_model.specs.CacheState.{CacheState, Item, entered, restarted_behind, hot_weight, total_weight}
use Rattle.quick_cache_model.specs.Hooks.{Rules, HookCall, BeforeEvict, evicted}
use Rattle.quick_cache_model.specs.Touches.{RaisesMarks}

-- the newest n ghosts
abbrev pub newest : ℕ → List ℕ → List ℕ
newest n ghosts = drop (length ghosts - n) ghosts

module _ {K V : Type 0} where
  -- an item whose mark fell by n, not below 0
  abbrev pub lowered : ℕ → Item K V → Item K V
  lowered n item = record item { mark = item.mark - n }

module _ {K V : Type 0} (rules : Rules K V) where
  abbrev pub pinned : Item K V → Bool
  pinned item = rules.pinned item.key item.value

  -- the ghosts once an item of this queue has left: the hash of a cold one becomes the newest ghost
  abbrev pub ghosts_with : Queue → Item K V → CacheState K V → CacheState K V
  ghosts_with Queue.Hot item state = state
  ghosts_with Queue.Cold item state = record state {
    ghosts = newest state.ghost_limit (state.ghosts ++ rules.hash item.key ∷ []);
  }

  -- The fate of a victim that was taken out of its ring: the value that `before_evict` leaves is
  -- weighed; of weight 0 the item stays in the cache, outside the rings, and else it leaves.
  pub data EvictsVictim (queue : Queue) (old : CacheState K V) (item : Item K V)
      : List (HookCall K V) → CacheState K V → Type 0 where
    stays : (left : V) → rules.weight item.key left ≡ 0
        → EvictsVictim queue old item (BeforeEvict item.key item.value left ∷ [])
        (entered (record item { value = left; weight = 0 }) old)
    leaves : (left : V) → 0 < rules.weight item.key left
        → EvictsVictim queue old item
        (BeforeEvict item.key item.value left ∷ evicted queue item.key left ∷ [])
        (ghosts_with queue item old)

  -- the item has the least mark among the unpinned, and is the first of these
  pub record IsFirstVictim (before : List (Item K V)) (item : Item K V)
      (after : List (Item K V)) : Type 0 where
    pub unpinned : pinned item ≡ false
    pub earlier : AllByRecursion (λ other. pinned other ≡ false → item.mark < other.mark) before
    pub later : AllByRecursion (λ other. pinned other ≡ false → item.mark ≤ other.mark) after

  -- A hot advance, with its answer. Where each item is pinned, every mark falls by one, and the
  -- answer is no. Else the first of the unpinned items with the least mark is the victim: each item
  -- before it loses one more than that mark, each other that mark, and the ring begins behind it.
  pub data AdvancesHot (old : CacheState K V) : Bool → List (HookCall K V) → CacheState K V
      → Type 0 where
    all_pinned : (hot : List (Item K V)) → RaisesMarks old.mark_cut rules.may_count old.hot hot
        → AllByRecursion (λ item. pinned item ≡ true) hot
        → AdvancesHot old false [] (record old { hot = map (lowered 1) hot })
    evicts : (hot before : List (Item K V)) (item : Item K V) (after : List (Item K V))
        (calls : List (HookCall K V)) (new : CacheState K V)
        → RaisesMarks old.mark_cut rules.may_count old.hot hot → hot ≡ before ++ item ∷ after
        → IsFirstVictim before item after
        → EvictsVictim Queue.Hot
        (record old {
          hot = restarted_behind (map (lowered (item.mark + 1)) before)
              (map (lowered item.mark) after);
        })
        (lowered item.mark item) calls new
        → AdvancesHot old true calls new

  -- hot advances while the hot weight is above its target, up to the first that answers no
  pub data EvictsToTarget : CacheState K V → List (HookCall K V) → CacheState K V → Type 0 where
    has_room : (old : CacheState K V) → hot_weight old ≤ old.hot_target → EvictsToTarget old [] old
    gives_up : (old new : CacheState K V) (calls : List (HookCall K V))
        → old.hot_target < hot_weight old
        → AdvancesHot old false calls new → EvictsToTarget old calls new
    goes_on : (old mid new : CacheState K V) (first rest : List (HookCall K V))
        → old.hot_target < hot_weight old
        → AdvancesHot old true first mid → EvictsToTarget mid rest new
        → EvictsToTarget old (first ++ rest) new

  -- a cold advance passes by an item that is pinned and unmarked
  abbrev pub IsPassed : Item K V → Type 0
  IsPassed item = (item.mark ≡ 0) × (pinned item ≡ true)

  -- the item of the cold ring is put last in the hot one, and pays a mark
  abbrev pub promoted : (before : List (Item K V)) (item : Item K V) (after : List (Item K V))
      → CacheState K V → CacheState K V
  promoted before item after state = record state {
    cold = restarted_behind before after;
    hot = state.hot ++ record item { mark = item.mark - 1; queue = Queue.Hot } ∷ [];
  }

  -- A cold advance, with its answer. The first item that is marked or unpinned is taken out, and
  -- the ring begins behind it. A marked one is promoted, and the hot ring is brought to its target;
  -- an unmarked one is the victim. Where each item is passed by, it is a hot advance.
  pub data AdvancesCold (old : CacheState K V) : Bool → List (HookCall K V) → CacheState K V
      → Type 0 where
    promotes : (cold before : List (Item K V)) (item : Item K V) (after : List (Item K V))
        (calls : List (HookCall K V)) (new : CacheState K V)
        → RaisesMarks old.mark_cut rules.may_count old.cold cold → cold ≡ before ++ item ∷ after
        → AllByRecursion IsPassed before
        → 0 < item.mark → EvictsToTarget (promoted before item after old) calls new
        → AdvancesCold old true calls new
    evicts : (cold before : List (Item K V)) (item : Item K V) (after : List (Item K V))
        (calls : List (HookCall K V)) (new : CacheState K V)
        → RaisesMarks old.mark_cut rules.may_count old.cold cold → cold ≡ before ++ item ∷ after
        → AllByRecursion IsPassed before
        → item.mark ≡ 0 → pinned item ≡ false
        → EvictsVictim Queue.Cold (record old { cold = restarted_behind before after }) item calls
        new
        → AdvancesCold old true calls new
    passes_all : (cold : List (Item K V)) (answer : Bool) (calls : List (HookCall K V))
        (new : CacheState K V)
        → RaisesMarks old.mark_cut rules.may_count old.cold cold → AllByRecursion IsPassed cold
        → AdvancesHot (record old { cold = cold }) answer calls new
        → AdvancesCold old answer calls new

  -- cold advances while the total weight and what is needed are above the capacity, up to the first
  -- that answers no
  pub data EvictsToCapacity (need : ℕ) : CacheState K V → List (HookCall K V) → CacheState K V
      → Type 0 where
    has_room : (old : CacheState K V) → total_weight old + need ≤ old.capacity
        → EvictsToCapacity need old [] old
    gives_up : (old new : CacheState K V) (calls : List (HookCall K V))
        → old.capacity < total_weight old + need
        → AdvancesCold old false calls new → EvictsToCapacity need old calls new
    goes_on : (old mid new : CacheState K V) (first rest : List (HookCall K V))
        → old.capacity < total_weight old + need
        → AdvancesCold old true first mid → EvictsToCapacity need mid rest new
        → EvictsToCapacity need old (first ++ rest) new
