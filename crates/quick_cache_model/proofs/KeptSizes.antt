-- The sizes of a cache through its calls: each keeps them but the setting of the capacity, which
-- leaves a cache sized. For each call the lemma of a caller who keeps `IsSized` as an invariant.
use Rattle.std.proofs.Common.{◌≡◌, ℕ, ◌-◌, ◌*◌, ◌/◌, ◌^◌, ◌<◌, ◌≤◌, ◌==◌, min, Bool, true, false, if◌then◌else◌, List, ◌∷◌, ◌++◌, Option}
use Rattle.std.proofs.Common.{refl, ap, ◌∙◌, arith}
use Rattle.quick_cache_model.specs.CacheState.{CacheState, Item, Place, InHot, InCold, InStill, with_items, entered, rewritten, empty_state}
use Rattle.quick_cache_model.specs.CacheState.{place_of_item, restarted_behind, SameButOrder}
use Rattle.quick_cache_model.specs.declared.queue.Queue.{Queue}
use Rattle.quick_cache_model.specs.Hooks.{Rules, HookCall}
use Rattle.quick_cache_model.specs.Touches.{first_mark}
use Rattle.quick_cache_model.specs.Eviction.{EvictsToCapacity}
use Rattle.quick_cache_model.specs.Writes.{Strategy, WritesAdmitted, TakesOutItem, RejectsTooHeavy, new_item, queue_for, Writes}
use Rattle.quick_cache_model.specs.Placeholders.{MakesPlaceholder, MeetsPlaceholder, MakesRoomFor, FillsPlaceholder, GivesUpPlaceholder}
use Rattle.quick_cache_model.specs.Lookups.{looked_up, LooksUp}
use Rattle.quick_cache_model.specs.Removal.{Removes, RemovesIf, Retains, Drains, weighed, reweighed}
use Rattle.quick_cache_model.specs.Entries.{EntryChoice, EntryOutcome, ActsOnEntry}
use Rattle.quick_cache_model.specs.Sizes.{default_hot_share, clamped_target, hot_target_of, ghost_limit_of, rescaled_target, rescaled_limit}
use Rattle.quick_cache_model.specs.Sizes.{IsSized}
use Rattle.quick_cache_model.specs.Capacity.{resized, SetsCapacity}
use Rattle.quick_cache_model.proofs.EvictionKeeps.{EvictsToCapacity-beside}

-- a target is at most the capacity
pub clamped_target-le : (capacity wish : ℕ) → clamped_target capacity wish ≤ capacity
clamped_target-le capacity wish = omega arith

-- and at least 1 unless the capacity is 0
pub clamped_target-pos : (capacity wish : ℕ) → min capacity 1 ≤ clamped_target capacity wish
clamped_target-pos capacity wish = omega arith

-- whatever the capacities, the new target is within its bounds
pub rescaled_target-le : (old_capacity capacity target : ℕ)
    → rescaled_target old_capacity capacity target ≤ capacity
rescaled_target-le old_capacity capacity target = go (old_capacity == 0)
  where
    go : (b : Bool) → (if b then hot_target_of capacity default_hot_share else clamped_target
        capacity (capacity * target / old_capacity)) ≤ capacity
    go true = clamped_target-le capacity (capacity * default_hot_share / 1000000)
    go false = clamped_target-le capacity (capacity * target / old_capacity)

-- and it is at least 1 unless the new capacity is 0
pub rescaled_target-pos : (old_capacity capacity target : ℕ)
    → min capacity 1 ≤ rescaled_target old_capacity capacity target
rescaled_target-pos old_capacity capacity target = go (old_capacity == 0)
  where
    go : (b : Bool) → min capacity 1 ≤ (if b then hot_target_of capacity default_hot_share else
        clamped_target capacity (capacity * target / old_capacity))
    go true = clamped_target-pos capacity (capacity * default_hot_share / 1000000)
    go false = clamped_target-pos capacity (capacity * target / old_capacity)

-- and a count holds the new limit, if one held the old
pub rescaled_limit-counts : (old_capacity capacity limit : ℕ) → limit < 2 ^ 64
    → rescaled_limit old_capacity capacity limit < 2 ^ 64
rescaled_limit-counts old_capacity capacity limit counts = go (old_capacity == 0)
  where
    go : (b : Bool) → (if b then limit else min (limit * capacity / old_capacity) (2 ^ 64 - 1))
        < 2 ^ 64
    go true = counts
    go false = omega arith

module _ {K V : Type 0} where
  -- the sizes are as they were
  pub record HasSameSizes (old new : CacheState K V) : Type 0 where
    pub capacity : new.capacity ≡ old.capacity
    pub hot_target : new.hot_target ≡ old.hot_target
    pub ghost_limit : new.ghost_limit ≡ old.ghost_limit

  -- so the cache is sized if it was
  pub IsSized-kept : (old new : CacheState K V) → HasSameSizes old new → IsSized old → IsSized new
  IsSized-kept old new same sized = record {
    target_within = omega (arith, sized.target_within, same.capacity, same.hot_target);
    target_above = omega (arith, sized.target_above, same.capacity, same.hot_target);
    limit_counts = omega (arith, sized.limit_counts, same.ghost_limit);
  }

  -- a new cache is sized as its options make it
  pub empty_state-sized : (capacity hot_share items ghost_share : ℕ)
      → IsSized (empty_state {K = K} {V = V} capacity (hot_target_of capacity hot_share)
      (ghost_limit_of items ghost_share))
  empty_state-sized capacity hot_share items ghost_share = record {
    target_within = clamped_target-le capacity (capacity * hot_share / 1000000);
    target_above = clamped_target-pos capacity (capacity * hot_share / 1000000);
    limit_counts = omega arith;
  }

  HasSameSizes-refl : (state : CacheState K V) → HasSameSizes state state
  HasSameSizes-refl state = record { capacity = refl; hot_target = refl; ghost_limit = refl }

  HasSameSizes-equal : (old mid new : CacheState K V) → new ≡ mid → HasSameSizes old mid
      → HasSameSizes old new
  HasSameSizes-equal old mid new is same = record {
    capacity = ap (λ (s : CacheState K V). s.capacity) is ∙ same.capacity;
    hot_target = ap (λ (s : CacheState K V). s.hot_target) is ∙ same.hot_target;
    ghost_limit = ap (λ (s : CacheState K V). s.ghost_limit) is ∙ same.ghost_limit;
  }

  -- other items at a place
  with_items-sizes : (place : Place) (items : List (Item K V)) (old mid : CacheState K V)
      → HasSameSizes old mid → HasSameSizes old (with_items place items mid)
  with_items-sizes InHot items old mid same = record
      { capacity = same.capacity; hot_target = same.hot_target; ghost_limit = same.ghost_limit }
  with_items-sizes InCold items old mid same = record
      { capacity = same.capacity; hot_target = same.hot_target; ghost_limit = same.ghost_limit }
  with_items-sizes InStill items old mid same = record
      { capacity = same.capacity; hot_target = same.hot_target; ghost_limit = same.ghost_limit }

  -- an item that enters
  entered-sizes : (item : Item K V) (old mid : CacheState K V) → HasSameSizes old mid
      → HasSameSizes old (entered item mid)
  entered-sizes item old mid same = with_items-sizes (place_of_item item) _ old mid same

  -- one that is written over another
  pub rewritten-sizes : (place : Place) (before : List (Item K V)) (item : Item K V)
      (after : List (Item K V)) (old : CacheState K V)
      → HasSameSizes old (rewritten place before item after old)
  rewritten-sizes InStill before item after old = go (item.weight == 0)
    where
      go : (b : Bool) → HasSameSizes old (if b then with_items InStill (before ++ item ∷ after) old
          else entered item (with_items InStill (before ++ after) old))
      go true = with_items-sizes InStill _ old old (HasSameSizes-refl old)
      go false = entered-sizes item old _
          (with_items-sizes InStill _ old old (HasSameSizes-refl old))
  rewritten-sizes InHot before item after old = go (item.weight == 0)
    where
      go : (b : Bool) → HasSameSizes old (if b then entered item
          (with_items InHot (restarted_behind before after) old)
          else with_items InHot (before ++ item ∷ after) old)
      go true = entered-sizes item old _ (with_items-sizes InHot _ old old (HasSameSizes-refl old))
      go false = with_items-sizes InHot _ old old (HasSameSizes-refl old)
  rewritten-sizes InCold before item after old = go (item.weight == 0)
    where
      go : (b : Bool) → HasSameSizes old (if b then entered item
          (with_items InCold (restarted_behind before after) old)
          else with_items InCold (before ++ item ∷ after) old)
      go true = entered-sizes item old _ (with_items-sizes InCold _ old old (HasSameSizes-refl old))
      go false = with_items-sizes InCold _ old old (HasSameSizes-refl old)

  -- another order of what has none
  pub SameButOrder-sizes : (old new : CacheState K V) → SameButOrder old new → HasSameSizes old new
  SameButOrder-sizes old new order = record {
    capacity = ap (λ (s : CacheState K V). s.capacity) order.same;
    hot_target = ap (λ (s : CacheState K V). s.hot_target) order.same;
    ghost_limit = ap (λ (s : CacheState K V). s.ghost_limit) order.same;
  }

  -- a look-up
  pub LooksUp-sizes : {X : Type 0} (stands_for : K → Bool) (of : Item K V → X)
      (old new : CacheState K V) (shown : Option X) → LooksUp stands_for old of shown new
      → HasSameSizes old new
  LooksUp-sizes stands_for of old _ _ (LooksUp.hit place before item after there) =
      with_items-sizes place _ old _
      (record { capacity = refl; hot_target = refl; ghost_limit = refl })
  LooksUp-sizes stands_for of old _ _ (LooksUp.miss none) =
      record { capacity = refl; hot_target = refl; ghost_limit = refl }

  -- a removal
  pub Removes-sizes : (stands_for : K → Bool) (hash : ℕ) (old new : CacheState K V)
      (answer : Option (K × V)) → Removes stands_for old hash answer new → HasSameSizes old new
  Removes-sizes stands_for hash old _ _ (Removes.of_item place before item after there) =
      with_items-sizes place _ old old (HasSameSizes-refl old)
  Removes-sizes stands_for hash old _ _ (Removes.of_loading before entry after there) =
      record { capacity = refl; hot_target = refl; ghost_limit = refl }
  Removes-sizes stands_for hash old _ _ (Removes.of_ghost before after there) =
      record { capacity = refl; hot_target = refl; ghost_limit = refl }
  Removes-sizes stands_for hash old _ _ (Removes.of_nothing nothing) = HasSameSizes-refl old

  -- a removal by a test
  pub RemovesIf-sizes : (stands_for : K → Bool) (passes : V → Bool) (old new : CacheState K V)
      (answer : Option (K × V)) → RemovesIf stands_for old passes answer new → HasSameSizes old new
  RemovesIf-sizes stands_for passes old _ _ (RemovesIf.goes place before item after there passed) =
      with_items-sizes place _ old old (HasSameSizes-refl old)
  RemovesIf-sizes stands_for passes old _ _ (RemovesIf.stays place before item after there failed) =
      HasSameSizes-refl old
  RemovesIf-sizes stands_for passes old _ _ (RemovesIf.absent none) = HasSameSizes-refl old

  -- a retain
  pub Retains-sizes : (keeps : K → V → Bool) (old new : CacheState K V) → Retains keeps old new
      → HasSameSizes old new
  Retains-sizes keeps old new retains = HasSameSizes-equal old _ new retains
      (record { capacity = refl; hot_target = refl; ghost_limit = refl })

  -- a drain
  pub Drains-sizes : (old new : CacheState K V) (pairs : List (K × V)) → Drains old pairs new
      → HasSameSizes old new
  Drains-sizes old new pairs drains = HasSameSizes-equal old _ new drains.1
      (record { capacity = refl; hot_target = refl; ghost_limit = refl })

  -- a placeholder that is made
  pub MakesPlaceholder-sizes : (stands_for : K → Bool) (hash : ℕ) (key : K)
      (old new : CacheState K V) → MakesPlaceholder stands_for old hash key new
      → HasSameSizes old new
  MakesPlaceholder-sizes stands_for hash key old _ (MakesPlaceholder.on_nothing stands nothing) =
      record { capacity = refl; hot_target = refl; ghost_limit = refl }
  MakesPlaceholder-sizes stands_for hash key old _
      (MakesPlaceholder.on_ghost before after stands there) =
      record { capacity = refl; hot_target = refl; ghost_limit = refl }

  -- one that is met
  pub MeetsPlaceholder-sizes : (stands_for : K → Bool) (ticket : ℕ) (old new : CacheState K V)
      → MeetsPlaceholder stands_for old ticket new → HasSameSizes old new
  MeetsPlaceholder-sizes stands_for _ old _ (MeetsPlaceholder.is_there before entry after there) =
      record { capacity = refl; hot_target = refl; ghost_limit = refl }

  -- one that is given up
  pub GivesUpPlaceholder-sizes : (ticket : ℕ) (old new : CacheState K V)
      → GivesUpPlaceholder ticket old new → HasSameSizes old new
  GivesUpPlaceholder-sizes ticket old _ (GivesUpPlaceholder.was_there before entry after there) =
      record { capacity = refl; hot_target = refl; ghost_limit = refl }
  GivesUpPlaceholder-sizes ticket old _ (GivesUpPlaceholder.was_gone none) = HasSameSizes-refl old

  module _ (rules : Rules K V) where
    -- eviction, from what has the sizes that were
    EvictsToCapacity-sizes : (need : ℕ) (old mid new : CacheState K V) (calls : List (HookCall K V))
        → EvictsToCapacity rules need mid calls new → HasSameSizes old mid → HasSameSizes old new
    EvictsToCapacity-sizes need old mid new calls evicts same =
        let kept = EvictsToCapacity-beside rules need mid new calls evicts in
        record {
          capacity = kept.capacity ∙ same.capacity;
          hot_target = kept.hot_target ∙ same.hot_target;
          ghost_limit = kept.ghost_limit ∙ same.ghost_limit;
        }

    -- an item that is weighed anew
    pub reweighed-sizes : (place : Place) (before : List (Item K V)) (item : Item K V)
        (after : List (Item K V)) (left : V) (old : CacheState K V)
        → HasSameSizes old (reweighed rules place before item after left old)
    reweighed-sizes place before item after left old =
        rewritten-sizes place before (weighed rules item left) after old

    -- the entry call
    pub ActsOnEntry-sizes : (stands_for : K → Bool) (old : CacheState K V) (item : Item K V)
        (left : V) (choice : EntryChoice) (outcome : EntryOutcome) (new : CacheState K V)
        → ActsOnEntry rules stands_for old item left choice outcome new → HasSameSizes old new
    ActsOnEntry-sizes stands_for old item left _ _ _ (ActsOnEntry.kept place before after there) =
        let same = reweighed-sizes place before (looked_up old.mark_cut item) after left old in
        record
        { capacity = same.capacity; hot_target = same.hot_target; ghost_limit = same.ghost_limit }
    ActsOnEntry-sizes stands_for old item left _ _ _
        (ActsOnEntry.removed place before after now front back there written) =
        with_items-sizes now _ old _ (reweighed-sizes place before item after left old)
    ActsOnEntry-sizes stands_for old item left _ _ _
        (ActsOnEntry.replaced place before after now front back there written provided) =
        let same = with_items-sizes now (front ++ back) old _
        (reweighed-sizes place before item after left old) in
        record
        { capacity = same.capacity; hot_target = same.hot_target; ghost_limit = same.ghost_limit }
    ActsOnEntry-sizes stands_for old item left _ _ _
        (ActsOnEntry.refused place before after refusal there may) =
        reweighed-sizes place before item after left old

    -- a placeholder that is filled
    pub FillsPlaceholder-sizes : (ticket : ℕ) (marked : Bool) (old : CacheState K V) (value : V)
        (calls : List (HookCall K V)) (answer : Option V) (new : CacheState K V)
        → FillsPlaceholder ticket old rules marked value calls answer new → HasSameSizes old new
    FillsPlaceholder-sizes ticket marked old value _ _ _ (FillsPlaceholder.was_gone none) =
        HasSameSizes-refl old
    FillsPlaceholder-sizes ticket marked old value _ _ _
        (FillsPlaceholder.fills before entry after left first rest new there checks makes) =
        room _ _ rest new
        (entered-sizes (new_item rules entry.key left
        (queue_for rules old entry.key left entry.queue)
        (if marked then first_mark old.mark_cut else 0)) old
        (record old { loading = before ++ after })
        (record { capacity = refl; hot_target = refl; ghost_limit = refl })) makes
      where
        room : (weight : ℕ) (mid : CacheState K V) (calls : List (HookCall K V))
            (last : CacheState K V) → HasSameSizes old mid
            → MakesRoomFor ticket old rules weight mid calls last → HasSameSizes old last
        room weight mid _ _ same (MakesRoomFor.takes_none none) = same
        room weight mid _ _ same (MakesRoomFor.takes_some calls last some evicts) =
            EvictsToCapacity-sizes 0 old mid last calls evicts same
    FillsPlaceholder-sizes ticket marked old value _ _ _
        (FillsPlaceholder.too_heavy before entry after left first there checks) =
        record { capacity = refl; hot_target = refl; ghost_limit = refl }

    -- a new capacity leaves a cache sized
    pub SetsCapacity-sized : (capacity : ℕ) (old new : CacheState K V) (calls : List (HookCall K V))
        → SetsCapacity rules capacity old calls new → IsSized old → IsSized new
    SetsCapacity-sized capacity old _ calls (SetsCapacity.sets mid _ evicts) sized =
        let same = EvictsToCapacity-beside rules 0 (resized rules capacity old) mid calls evicts in
        record {
          target_within = omega (
            arith,
            same.capacity,
            same.hot_target,
            rescaled_target-le old.capacity capacity old.hot_target,
          );
          target_above = omega (
            arith,
            same.capacity,
            same.hot_target,
            rescaled_target-pos old.capacity capacity old.hot_target,
          );
          limit_counts = omega (
            arith,
            same.ghost_limit,
            rescaled_limit-counts old.capacity capacity old.ghost_limit sized.limit_counts,
          );
        }

    module _ (equal_to : K → Bool) (key : K) where
      -- the write of an admitted pair
      WritesAdmitted-sizes : (strategy : Strategy) (old : CacheState K V) (value : V)
          (calls : List (HookCall K V)) (answer : Option (K × V)) (new : CacheState K V)
          → WritesAdmitted rules equal_to key strategy old value calls answer new
          → HasSameSizes old new
      WritesAdmitted-sizes strategy old value _ _ _
          (WritesAdmitted.inserts_new mid calls inserts nothing evicts) =
          entered-sizes (new_item rules key value (queue_for rules old key value Queue.Cold) 0) old
          mid
          (EvictsToCapacity-sizes (rules.weight key value) old old mid calls evicts
          (HasSameSizes-refl old))
      WritesAdmitted-sizes strategy old value _ _ _
          (WritesAdmitted.overwrites place before item touched after calls new there takes evicts) =
          EvictsToCapacity-sizes 0 old _ new calls evicts (rewritten-sizes place before _ after old)
      WritesAdmitted-sizes strategy old value _ _ _
          (WritesAdmitted.inserts_over_ghost before after calls new inserts there evicts) =
          EvictsToCapacity-sizes 0 old _ new calls evicts
          (entered-sizes (new_item rules key value Queue.Hot 0) old
          (record old { ghosts = before ++ after })
          (record { capacity = refl; hot_target = refl; ghost_limit = refl }))
      WritesAdmitted-sizes strategy old value _ _ _
          (WritesAdmitted.inserts_over_loading before entry after calls new inserts there evicts) =
          EvictsToCapacity-sizes 0 old _ new calls evicts
          (entered-sizes (new_item rules key value entry.queue (first_mark old.mark_cut)) old
          (record old { loading = before ++ after })
          (record { capacity = refl; hot_target = refl; ghost_limit = refl }))
      WritesAdmitted-sizes strategy old value _ _ _ (WritesAdmitted.gives_back replaces none) =
          HasSameSizes-refl old

      TakesOutItem-sizes : (old : CacheState K V) (calls : List (HookCall K V))
          (new : CacheState K V) → TakesOutItem equal_to old calls new
          → HasSameSizes old new
      TakesOutItem-sizes old _ _ (TakesOutItem.was_there place before item after there) =
          with_items-sizes place _ old old (HasSameSizes-refl old)
      TakesOutItem-sizes old _ _ (TakesOutItem.was_absent none) = HasSameSizes-refl old

      -- a write
      pub Writes-sizes : (strategy : Strategy) (old : CacheState K V) (value : V)
          (calls : List (HookCall K V)) (answer : Option (K × V)) (new : CacheState K V)
          → Writes rules equal_to key strategy old value calls answer new → HasSameSizes old new
      Writes-sizes strategy old value _ _ _
          (Writes.admitted first rest left answer new checks writes) =
          WritesAdmitted-sizes strategy old left rest answer new writes
      Writes-sizes strategy old value _ _ _
          (Writes.too_heavy first rest left answer new checks rejects) =
          rejected rest answer new rejects
        where
          rejected : (calls : List (HookCall K V)) (answer : Option (K × V)) (last : CacheState K V)
              → RejectsTooHeavy equal_to key strategy old left calls answer last
              → HasSameSizes old last
          rejected _ _ _ (RejectsTooHeavy.reports calls last inserts takes) =
              TakesOutItem-sizes old calls last takes
          rejected _ _ _ (RejectsTooHeavy.gives_back calls last replaces takes) =
              TakesOutItem-sizes old calls last takes
