-- Laws of items that are never victims: one without weight stays where it is, and no pinned pair
-- leaves the cache.
use Rattle.std.proofs.Common.{◌≡◌, ℕ, ◌+◌, ◌-◌, ◌≤◌, Bool, true, false, true≢false, cond, List, [], ◌∷◌, ◌++◌, map, refl, sym, ap, ap₂, ◌∙◌}
use Rattle.std.proofs.Common.{arith}
use Rattle.std.specs.List.{count_by}
use Rattle.std.proofs.lemmas.List.Sums.{sum_by-append, sum_by-cons}
use Rattle.quick_cache_model.specs.declared.queue.Queue.{Queue}
use Rattle.quick_cache_model.specs.CacheState.{CacheState, Item}
use Rattle.quick_cache_model.specs.Hooks.{Rules, HookCall}
use Rattle.quick_cache_model.specs.Touches.{RaisesMarks}
use Rattle.quick_cache_model.specs.Eviction.{lowered, EvictsVictim, AdvancesHot, EvictsToTarget, AdvancesCold, EvictsToCapacity}
use Rattle.quick_cache_laws.specs.Laws.{pairs_by, IsPinnedTest}
use Rattle.quick_cache_model.proofs.KeyCounts.{one_if}
use Rattle.quick_cache_model.proofs.TouchLaws.{with_touches-key, with_touches-value}
use Rattle.quick_cache_model.proofs.EvictionKeeps.{EvictsToCapacity-beside}

-- an item without weight is where it was, once room was made
pub EvictsToCapacity-still : {K V : Type 0} (rules : Rules K V) (need : ℕ)
    (old new : CacheState K V) (calls : List (HookCall K V))
    → EvictsToCapacity rules need old calls new → (more : List (Item K V))
    × (new.still ≡ old.still ++ more)
EvictsToCapacity-still rules need old new calls evicts =
    (EvictsToCapacity-beside rules need old new calls evicts).still

module _ {K V : Type 0} (test : K → V → Bool) where
  -- how many items have a pair that passes
  abbrev pub pairs : List (Item K V) → ℕ
  pairs items = count_by (λ item. test item.key item.value) items

  -- the first item counts where its pair passes
  pub pairs-cons : (item : Item K V) (items : List (Item K V))
      → pairs (item ∷ items) ≡ one_if (test item.key item.value) + pairs items
  pairs-cons item items = sum_by-cons (λ (x : Item K V). cond (test x.key x.value) 1 0) item items

  -- two lists, one behind the other
  pub pairs-append : (xs ys : List (Item K V)) → pairs (xs ++ ys) ≡ pairs xs + pairs ys
  pairs-append xs ys = sum_by-append (λ (x : Item K V). cond (test x.key x.value) 1 0) xs ys

  -- an item between two lists
  pub pairs-split : (before : List (Item K V)) (item : Item K V) (after : List (Item K V))
      → pairs (before ++ item ∷ after) ≡ pairs before +
      (one_if (test item.key item.value) + pairs after)
  pairs-split before item after = omega (
    arith,
    pairs-append before
        (item ∷ after),
    pairs-cons item after,
  )

  -- lowered marks change no pair, and touches none
  pub pairs-lowered : (n : ℕ) (items : List (Item K V))
      → pairs (map (lowered n) items) ≡ pairs items
  pairs-lowered n [] = refl
  pairs-lowered n (x ∷ xs) = omega (
    arith,
    pairs-cons (lowered n x)
        (map (lowered n) xs),
    pairs-cons x xs,
    pairs-lowered n xs,
  )

  -- touches change no pair
  pub pairs-raised : (cut : ℕ) (may_count : ℕ → Type 0) (old new : List (Item K V))
      → RaisesMarks cut may_count old new → pairs new ≡ pairs old
  pairs-raised cut may_count [] [] raised = refl
  pairs-raised cut may_count [] (y ∷ ys) raised = absurd raised
  pairs-raised cut may_count (x ∷ xs) [] raised = absurd raised
  pairs-raised cut may_count (x ∷ xs) (y ∷ ys) raised =
      let key : y.key ≡ x.key = ap (λ (i : Item K V). i.key)
      raised.0.2 ∙ with_touches-key cut raised.0.0 x in
      let value : y.value ≡ x.value = ap (λ (i : Item K V). i.value)
      raised.0.2 ∙ with_touches-value cut raised.0.0 x in
      omega (
        arith,
        pairs-cons x xs,
        pairs-cons y ys,
        ap₂ (λ k v. one_if (test k v))
            key value,
        pairs-raised cut may_count xs ys raised.1,
      )

module _ {K V : Type 0} (rules : Rules K V) (test : K → V → Bool)
    (only_pinned : IsPinnedTest rules test) where
  -- an unpinned pair does not pass
  unpinned_fails : (key : K) (value : V) → rules.pinned key value ≡ false
      → one_if (test key value) ≡ 0
  unpinned_fails key value unpinned = go (test key value) refl
    where
      go : (b : Bool) → test key value ≡ b → one_if b ≡ 0
      go true is = absurd (true≢false (sym (only_pinned key value is) ∙ unpinned))
      go false is = refl

  -- the fate of a victim takes no pair away that stands elsewhere
  pub EvictsVictim-pairs : (queue : Queue) (old new : CacheState K V) (item : Item K V)
      (calls : List (HookCall K V))
      → EvictsVictim rules queue old item calls new → pairs_by test old ≤ pairs_by test new
  EvictsVictim-pairs queue old _ item _ (EvictsVictim.stays left light) =
      omega (arith, pairs-append test old.still (record item { value = left; weight = 0 } ∷ []))
  EvictsVictim-pairs Queue.Hot old _ item _ (EvictsVictim.leaves left heavy) = omega arith
  EvictsVictim-pairs Queue.Cold old _ item _ (EvictsVictim.leaves left heavy) = omega arith

  -- no pinned pair leaves by a hot advance
  pub AdvancesHot-pairs : (old new : CacheState K V) (answer : Bool) (calls : List (HookCall K V))
      → AdvancesHot rules old answer calls new → pairs_by test old ≤ pairs_by test new
  AdvancesHot-pairs old _ _ _ (AdvancesHot.all_pinned hot raised pinned) =
      omega (
        arith,
        pairs-lowered test 1 hot,
        pairs-raised test old.mark_cut rules.may_count old.hot
            hot raised,
      )
  AdvancesHot-pairs old _ _ _ (AdvancesHot.evicts hot before item after calls new raised split first
      evicts) =
      omega (
        arith,
        pairs-raised test old.mark_cut rules.may_count old.hot hot raised,
        ap (pairs test) split,
        pairs-split test before item after,
        unpinned_fails item.key item.value first.unpinned,
        EvictsVictim-pairs Queue.Hot _ new (lowered item.mark item) calls evicts,
        pairs-append test (map (lowered item.mark) after) (map (lowered (item.mark + 1)) before),
        pairs-lowered test item.mark after,
        pairs-lowered test (item.mark + 1) before,
      )

  -- nor when the hot ring is brought to its target
  pub EvictsToTarget-pairs : (old new : CacheState K V) (calls : List (HookCall K V))
      → EvictsToTarget rules old calls new → pairs_by test old ≤ pairs_by test new
  EvictsToTarget-pairs _ _ _ (EvictsToTarget.has_room old fits) = omega arith
  EvictsToTarget-pairs _ _ _ (EvictsToTarget.gives_up old new calls above advances) =
      AdvancesHot-pairs old new false calls advances
  EvictsToTarget-pairs _ _ _ (EvictsToTarget.goes_on old mid new first rest above advances goes) =
      omega (
        arith,
        AdvancesHot-pairs old mid true first advances,
        EvictsToTarget-pairs mid new rest
            goes,
      )

  -- nor by a cold one
  pub AdvancesCold-pairs : (old new : CacheState K V) (answer : Bool) (calls : List (HookCall K V))
      → AdvancesCold rules old answer calls new → pairs_by test old ≤ pairs_by test new
  AdvancesCold-pairs old _ _ _ (AdvancesCold.promotes cold before item after calls new raised split
      passed marked goes) =
      let moved = record item { mark = item.mark - 1; queue = Queue.Hot } in
      omega (
        arith,
        pairs-raised test old.mark_cut rules.may_count old.cold cold raised,
        ap (pairs test) split,
        pairs-split test before item after,
        EvictsToTarget-pairs _ new calls goes,
        pairs-append test after before,
        pairs-append test old.hot (moved ∷ []),
        pairs-cons test moved [],
      )
  AdvancesCold-pairs old _ _ _ (AdvancesCold.evicts cold before item after calls new raised split
      passed unmarked unpinned evicts) =
      omega (
        arith,
        pairs-raised test old.mark_cut rules.may_count old.cold cold raised,
        ap (pairs test) split,
        pairs-split test before item after,
        unpinned_fails item.key item.value unpinned,
        EvictsVictim-pairs Queue.Cold _ new item calls evicts,
        pairs-append test after before,
      )
  AdvancesCold-pairs old _ _ _ (AdvancesCold.passes_all cold answer calls new raised passed
      advances) =
      omega (
        arith,
        pairs-raised test old.mark_cut rules.may_count old.cold cold raised,
        AdvancesHot-pairs _ new
            answer calls advances,
      )

  -- nor by eviction down to the capacity: of the pinned pairs that pass a test there are no fewer
  -- than before
  pub EvictsToCapacity-pairs : (need : ℕ) (old new : CacheState K V) (calls : List (HookCall K V))
      → EvictsToCapacity rules need old calls new → pairs_by test old ≤ pairs_by test new
  EvictsToCapacity-pairs need _ _ _ (EvictsToCapacity.has_room old fits) = omega arith
  EvictsToCapacity-pairs need _ _ _ (EvictsToCapacity.gives_up old new calls above advances) =
      AdvancesCold-pairs old new false calls advances
  EvictsToCapacity-pairs need _ _ _ (EvictsToCapacity.goes_on old mid new first rest above advances
      goes) =
      omega (
        arith,
        AdvancesCold-pairs old mid true first advances,
        EvictsToCapacity-pairs need mid
            new rest goes,
      )
