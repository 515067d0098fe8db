-- Laws of making room: it brings no key.
use Rattle.std.proofs.Common.{◌≡◌, ℕ, ◌+◌, ◌-◌, ◌≤◌, Bool, true, false, List, [], ◌∷◌, map, ap, arith}
use Rattle.quick_cache_model.specs.declared.queue.Queue.{Queue}
use Rattle.quick_cache_model.specs.CacheState.{CacheState, Item, keys_by}
use Rattle.quick_cache_model.specs.Hooks.{Rules, HookCall}
use Rattle.quick_cache_model.specs.Finding.{HasNoKey}
use Rattle.quick_cache_model.specs.Eviction.{EvictsVictim, AdvancesHot, EvictsToTarget, AdvancesCold, EvictsToCapacity, lowered}
use Rattle.quick_cache_model.proofs.KeyCounts.{one, keys, keys-cons, keys-append, keys-split, keys-lowered, keys-raised, keys-none}
use Rattle.quick_cache_model.proofs.KeyCounts.{none-from_keys, loading_keys-none, loading_none-from_keys}

module _ {K V : Type 0} (rules : Rules K V) (test : K → Bool) where
  -- the victim brings at most its own key back
  pub EvictsVictim-keys : (queue : Queue) (old new : CacheState K V) (item : Item K V)
      (calls : List (HookCall K V))
      → EvictsVictim rules queue old item calls new
      → keys_by test new ≤ keys_by test old + one test item.key
  EvictsVictim-keys queue old _ item _ (EvictsVictim.stays left light) =
      omega (
        arith,
        keys-append test old.still
            (record item { value = left; weight = 0 } ∷ []),
        keys-cons test
            (record item { value = left; weight = 0 }) [],
      )
  EvictsVictim-keys Queue.Hot old _ item _ (EvictsVictim.leaves left heavy) = omega arith
  EvictsVictim-keys Queue.Cold old _ item _ (EvictsVictim.leaves left heavy) = omega arith

  -- a hot advance brings no key
  pub AdvancesHot-keys : (old new : CacheState K V) (answer : Bool) (calls : List (HookCall K V))
      → AdvancesHot rules old answer calls new → keys_by test new ≤ keys_by test old
  AdvancesHot-keys old _ _ _ (AdvancesHot.all_pinned hot raised pinned) =
      omega (
        arith,
        keys-lowered test 1 hot,
        keys-raised test old.mark_cut rules.may_count old.hot
            hot raised,
      )
  AdvancesHot-keys old _ _ _ (AdvancesHot.evicts hot before item after calls new raised split first
      evicts) =
      omega (
        arith,
        keys-raised test old.mark_cut rules.may_count old.hot hot raised,
        ap (keys test) split,
        keys-split test before item after,
        EvictsVictim-keys Queue.Hot _ new (lowered item.mark item) calls evicts,
        keys-append test (map (lowered item.mark) after) (map (lowered (item.mark + 1)) before),
        keys-lowered test item.mark after,
        keys-lowered test (item.mark + 1) before,
      )

  -- nor does eviction down to the target
  pub EvictsToTarget-keys : (old new : CacheState K V) (calls : List (HookCall K V))
      → EvictsToTarget rules old calls new → keys_by test new ≤ keys_by test old
  EvictsToTarget-keys _ _ _ (EvictsToTarget.has_room old fits) = omega arith
  EvictsToTarget-keys _ _ _ (EvictsToTarget.gives_up old new calls above advances) =
      AdvancesHot-keys old new false calls advances
  EvictsToTarget-keys _ _ _ (EvictsToTarget.goes_on old mid new first rest above advances goes) =
      omega (
        arith,
        AdvancesHot-keys old mid true first advances,
        EvictsToTarget-keys mid new rest
            goes,
      )

  -- nor does a cold advance
  pub AdvancesCold-keys : (old new : CacheState K V) (answer : Bool) (calls : List (HookCall K V))
      → AdvancesCold rules old answer calls new → keys_by test new ≤ keys_by test old
  AdvancesCold-keys old _ _ _ (AdvancesCold.promotes cold before item after calls new raised split
      passed marked goes) =
      let moved = record item { mark = item.mark - 1; queue = Queue.Hot } in
      omega (
        arith,
        keys-raised test old.mark_cut rules.may_count old.cold cold raised,
        ap (keys test) split,
        keys-split test before item after,
        EvictsToTarget-keys _ new calls goes,
        keys-append test after before,
        keys-append test old.hot (moved ∷ []),
        keys-cons test moved [],
      )
  AdvancesCold-keys old _ _ _ (AdvancesCold.evicts cold before item after calls new raised split
      passed unmarked unpinned evicts) =
      omega (
        arith,
        keys-raised test old.mark_cut rules.may_count old.cold cold raised,
        ap (keys test) split,
        keys-split test before item after,
        EvictsVictim-keys Queue.Cold _ new item calls evicts,
        keys-append test after before,
      )
  AdvancesCold-keys old _ _ _ (AdvancesCold.passes_all cold answer calls new raised passed advances)
      =
      omega (
        arith,
        keys-raised test old.mark_cut rules.may_count old.cold cold raised,
        AdvancesHot-keys _ new
            answer calls advances,
      )

  -- nor does eviction down to the capacity
  pub EvictsToCapacity-keys : (need : ℕ) (old new : CacheState K V) (calls : List (HookCall K V))
      → EvictsToCapacity rules need old calls new → keys_by test new ≤ keys_by test old
  EvictsToCapacity-keys need _ _ _ (EvictsToCapacity.has_room old fits) = omega arith
  EvictsToCapacity-keys need _ _ _ (EvictsToCapacity.gives_up old new calls above advances) =
      AdvancesCold-keys old new false calls advances
  EvictsToCapacity-keys need _ _ _ (EvictsToCapacity.goes_on old mid new first rest above advances
      goes) =
      omega (
        arith,
        AdvancesCold-keys old mid true first advances,
        EvictsToCapacity-keys need mid
            new rest goes,
      )

module _ {K V : Type 0} (stands_for : K → Bool) where
  -- a state has no key that passes exactly where it counts none
  pub keys_by-none : (state : CacheState K V) → HasNoKey stands_for state
      → keys_by stands_for state ≡ 0
  keys_by-none state none =
      omega (
        arith,
        keys-none stands_for state.hot none.items.hot,
        keys-none stands_for state.cold none.items.cold,
        keys-none stands_for state.still none.items.still,
        loading_keys-none stands_for state.loading none.loading,
      )

  -- and where it counts none, it has none
  pub HasNoKey-from_count : (state : CacheState K V) → keys_by stands_for state ≡ 0
      → HasNoKey stands_for state
  HasNoKey-from_count state e = record {
    items = record {
      hot = none-from_keys stands_for state.hot (omega (arith, e));
      cold = none-from_keys stands_for state.cold (omega (arith, e));
      still = none-from_keys stands_for state.still (omega (arith, e));
    };
    loading = loading_none-from_keys stands_for state.loading (omega (arith, e));
  }

  -- a key that was not there is not there once room was made
  pub EvictsToCapacity-none : (rules : Rules K V) (need : ℕ) (old new : CacheState K V)
      (calls : List (HookCall K V))
      → EvictsToCapacity rules need old calls new → HasNoKey stands_for old
      → HasNoKey stands_for new
  EvictsToCapacity-none rules need old new calls evicts none =
      HasNoKey-from_count new (omega (
        arith,
        EvictsToCapacity-keys rules stands_for need old new
            calls evicts,
        keys_by-none old none,
      ))
