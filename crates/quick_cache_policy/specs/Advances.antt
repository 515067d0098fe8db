-- How room is made: the steps of advances, and the hook calls that they make.
use Rattle.std.specs.Prelude.{◌≡◌, ℕ, ◌-◌, ◌<◌, Bool, true, false, List, [], ◌∷◌, ◌++◌}
use Rattle.std.specs.List.{AllByRecursion}
use Rattle.quick_cache_model.specs.declared.queue.Queue.{Queue}
use Rattle.quick_cache_model.specs.CacheState.{CacheState, Item, UpToOrder, ring_place, items_at, with_items}
use Rattle.quick_cache_model.specs.Eviction.{EvictsVictim}
use Rattle.quick_cache_model.specs.Hooks.{Rules, Hooks, HookCall, BeforeEvict, evicted}
use Rattle.quick_cache_model.specs.Touches.{RaisesMarks, TakesTouches, counted_up}
use Rattle.quick_cache_model.specs.Leads.{TellsResidents}
use Rattle.quick_cache_store.specs.Lists.{IsItemOf, with_change, with_counts, with_mark}
use Rattle.quick_cache_policy.specs.declared.contents.Contents.{Contents}
use Rattle.quick_cache_policy.specs.declared.evicting.hot.Visit.{Visit}
use Rattle.quick_cache_policy.specs.declared.evicting.victim.Fate.{Fate}
use Rattle.quick_cache_policy.specs.declared.evicting.cold.Search.{Search}

-- Each victim is told to `before_evict`, and then, unless it stays because it weighs nothing any
-- more, to the hook of its queue.
pub data AreEvictions {K V : Type 0} : List (HookCall K V) → Type 0 where
  none : AreEvictions []
  stays : (key : K) (value left : V) (rest : List (HookCall K V)) → AreEvictions rest
      → AreEvictions (BeforeEvict key value left ∷ rest)
  leaves : (queue : Queue) (key : K) (value left : V) (rest : List (HookCall K V))
      → AreEvictions rest
      → AreEvictions (BeforeEvict key value left ∷ evicted queue key left ∷ rest)

module _ {K V : Type 0} where
  -- The calls are those of evictions, and whatever is pinned they tell what became of the residents.
  -- Where pinning is steady, they are those of a step to this state, up to the order of what has
  -- none.
  abbrev pub Evicting : (steady : Type 0)
      → (step : CacheState K V → List (HookCall K V) → CacheState K V → Type 0)
      → (old new : CacheState K V) → List (HookCall K V) → Type 0
  Evicting steady step old new calls = (steady → UpToOrder (step old calls) new)
      × AreEvictions calls × TellsResidents old calls new

  -- the first item of a ring left it as a victim does
  pub record FirstIsEvicted (rules : Rules K V) (queue : Queue) (old : CacheState K V)
      (calls : List (HookCall K V)) (new : CacheState K V) : Type 0 where
    pub item : Item K V
    pub rest : List (Item K V)
    pub stands : items_at (ring_place queue) old ≡ item ∷ rest
    pub evicts : UpToOrder
        (EvictsVictim rules queue (with_items (ring_place queue) rest old) item calls) new

  -- the first cold item is the last hot one now, and paid a mark
  pub record FirstIsPromoted (old new : CacheState K V) : Type 0 where
    pub item : Item K V
    pub rest : List (Item K V)
    pub stands : old.cold ≡ item ∷ rest
    pub promoted : new ≡ record old {
      cold = rest;
      hot = old.hot ++ record item { mark = item.mark - 1; queue = Queue.Hot } ∷ [];
    }

  -- what a visit to an item met: its mark is known, and where pinning is steady, whether it is
  -- pinned
  abbrev pub Meets : (steady : Type 0) → (pinned : K → V → Bool) → Item K V → Visit → Type 0
  Meets steady pinned item Visit.Pinned = steady → pinned item.key item.value ≡ true
  Meets steady pinned item Visit.Marked =
      (0 < item.mark) × (steady → pinned item.key item.value ≡ false)
  Meets steady pinned item Visit.Victim =
      (item.mark ≡ 0) × (steady → pinned item.key item.value ≡ false)

  -- an item that a search of the cold ring passes by
  pub record IsPassedBy (steady : Type 0) (pinned : K → V → Bool) (item : Item K V) : Type 0 where
    pub unmarked : item.mark ≡ 0
    pub pinned_there : steady → pinned item.key item.value ≡ true

  -- what is found at an item of the cold ring: its mark is looked at before its pin
  abbrev pub IsFound : (steady : Type 0) → (pinned : K → V → Bool) → Item K V → Search → Type 0
  IsFound steady pinned item Search.Marked = 0 < item.mark
  IsFound steady pinned item Search.Victim =
      (item.mark ≡ 0) × (steady → pinned item.key item.value ≡ false)
  IsFound steady pinned item Search.AllPassed = IsPassedBy steady pinned item

  -- the first item took its touches, and then it was looked at
  pub record LooksAt (steady : Type 0) (pinned : K → V → Bool) (cut : ℕ) (may_count : ℕ → Type 0)
      (old : List (Item K V)) (answer : Search) (new : List (Item K V)) : Type 0 where
    pub item : Item K V
    pub touched : Item K V
    pub rest : List (Item K V)
    pub split : old ≡ item ∷ rest
    pub takes : TakesTouches cut may_count item touched
    pub finds : IsFound steady pinned touched answer
    pub looked : new ≡ touched ∷ rest

  -- The search passed these by and stopped at an item, with which the ring begins now.
  pub record StopsAt (steady : Type 0) (pinned : K → V → Bool) (met : Item K V → Type 0)
      (old new : List (Item K V)) : Type 0 where
    pub before : List (Item K V)
    pub item : Item K V
    pub after : List (Item K V)
    pub split : old ≡ before ++ item ∷ after
    pub passed : AllByRecursion (IsPassedBy steady pinned) before
    pub meets : met item
    pub turned : new ≡ item ∷ after ++ before

  -- how a search of the cold ring ends: at a marked item, at an unmarked one that is not pinned, or
  -- nowhere, and then the ring is as it was
  abbrev pub SearchEnds : (steady : Type 0) → (pinned : K → V → Bool) → List (Item K V) → Search
      → List (Item K V) → Type 0
  SearchEnds steady pinned old Search.Marked new =
      StopsAt steady pinned (λ item. IsFound steady pinned item Search.Marked) old new
  SearchEnds steady pinned old Search.Victim new =
      StopsAt steady pinned (λ item. IsFound steady pinned item Search.Victim) old new
  SearchEnds steady pinned old Search.AllPassed new =
      AllByRecursion (IsPassedBy steady pinned) old × (new ≡ old)

  -- a search of the cold ring, in which each item that was looked at took its touches first
  pub record Searches (steady : Type 0) (pinned : K → V → Bool) (cut : ℕ) (may_count : ℕ → Type 0)
      (old : List (Item K V)) (answer : Search) (new : List (Item K V)) : Type 0 where
    pub cold : List (Item K V)
    pub raised : RaisesMarks cut may_count old cold
    pub ends : SearchEnds steady pinned cold answer new

module _ {K V T S : Type 0} (weight_of : K → V → ℕ) (hooks : Hooks K V S) (item : Item K V)
    (first : S) where
  -- `before_evict` was told of the item and left a value, which was weighed: the item stays with
  -- it where it weighs nothing, and else the pair leaves
  abbrev pub Decides : Fate K V T → S → Type 0
  Decides (Fate.Stays kept) last = hooks.before_evict first item.key item.value last kept.value
      × (weight_of item.key kept.value ≡ 0)
      × (kept ≡ record item { value = kept.value; weight = 0 })
  Decides (Fate.Leaves key left) last = hooks.before_evict first item.key item.value last left
      × (0 < weight_of item.key left) × (key ≡ item.key)

module _ {K V P W A T : Type 0} where
  -- the item of a token took its touches
  pub record HasTakenTouches (may_count : ℕ → Type 0) (token : ℕ) (old new : Contents K V W A T P)
      : Type 0 where
    pub item : Item K V
    pub touched : Item K V
    pub is_of : IsItemOf old.lists token item
    pub takes : TakesTouches old.mark_cut may_count item touched
    pub same : new ≡ record old {
      lists = with_change token (with_counts touched.mark touched.reads) old.lists;
    }

  -- The item of a token was visited: its mark fell by one, not below 0, and the visit was counted.
  pub record IsVisited (steady : Type 0) (pinned : K → V → Bool) (token : ℕ)
      (old : Contents K V W A T P) (met : Visit) (new : Contents K V W A T P) : Type 0 where
    pub item : Item K V
    pub is_of : IsItemOf old.lists token item
    pub meets : Meets steady pinned item met
    pub same : new ≡ record old {
      lists = with_change token (with_mark (item.mark - 1)) old.lists;
      visits = counted_up 1 old.visits;
    }
