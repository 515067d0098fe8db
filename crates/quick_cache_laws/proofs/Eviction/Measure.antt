-- Laws of the measure of the rings: an advance that answers yes lowers it, and no hot advance
-- raises it.
use Rattle.std.proofs.Common.{◌≡◌, ℕ, ◌+◌, ◌-◌, ◌<◌, ◌≤◌, Bool, true, false, List, [], ◌∷◌, ◌++◌, map, length, refl, ap, arith}
use Rattle.std.proofs.Common.{length-append}
use Rattle.std.proofs.lemmas.List.{length-map}
use Rattle.quick_cache_model.specs.declared.queue.Queue.{Queue}
use Rattle.quick_cache_model.specs.CacheState.{CacheState, Item}
use Rattle.quick_cache_model.specs.Hooks.{Rules, HookCall}
use Rattle.quick_cache_model.specs.Touches.{RaisesMarks}
use Rattle.quick_cache_model.specs.Eviction.{lowered, EvictsVictim, AdvancesHot, EvictsToTarget, AdvancesCold}
use Rattle.quick_cache_laws.specs.Laws.{ring_measure}

module _ {K V : Type 0} where
  -- touches leave a list as long
  pub length-raised : (cut : ℕ) (may_count : ℕ → Type 0) (old new : List (Item K V))
      → RaisesMarks cut may_count old new → length new ≡ length old
  length-raised cut may_count [] [] raised = refl
  length-raised cut may_count [] (y ∷ ys) raised = absurd raised
  length-raised cut may_count (x ∷ xs) [] raised = absurd raised
  length-raised cut may_count (x ∷ xs) (y ∷ ys) raised =
      omega (arith, length-raised cut may_count xs ys raised.1)

  -- a list is one longer than its parts before and behind an item
  pub length-split : (items before : List (Item K V)) (item : Item K V) (after : List (Item K V))
      → items ≡ before ++ item ∷ after
      → length items ≡ length before + length after + 1
  length-split items before item after split =
      omega (arith, ap length split, length-append before (item ∷ after))

module _ {K V : Type 0} (rules : Rules K V) where
  -- the fate of a victim leaves the rings alone
  pub EvictsVictim-measure : (queue : Queue) (old new : CacheState K V) (item : Item K V)
      (calls : List (HookCall K V))
      → EvictsVictim rules queue old item calls new → ring_measure new ≡ ring_measure old
  EvictsVictim-measure queue old _ item _ (EvictsVictim.stays left light) = refl
  EvictsVictim-measure Queue.Hot old _ item _ (EvictsVictim.leaves left heavy) = refl
  EvictsVictim-measure Queue.Cold old _ item _ (EvictsVictim.leaves left heavy) = refl

  -- a hot advance that evicts takes an item out of the hot ring
  pub AdvancesHot-measure : (old new : CacheState K V) (calls : List (HookCall K V))
      → AdvancesHot rules old true calls new → ring_measure new + 1 ≡ ring_measure old
  AdvancesHot-measure old _ _ (AdvancesHot.evicts hot before item after calls new raised split first
      evicts) =
      omega (
        arith,
        length-raised old.mark_cut rules.may_count old.hot hot raised,
        length-split hot before item after split,
        EvictsVictim-measure Queue.Hot _ new (lowered item.mark item) calls evicts,
        length-append (map (lowered item.mark) after) (map (lowered (item.mark + 1)) before),
        length-map after (lowered item.mark),
        length-map before (lowered (item.mark + 1)),
      )

  -- whatever a hot advance answers, no ring grows
  pub AdvancesHot-measure_le : (old new : CacheState K V) (answer : Bool)
      (calls : List (HookCall K V))
      → AdvancesHot rules old answer calls new → ring_measure new ≤ ring_measure old
  AdvancesHot-measure_le old new true calls advances =
      omega (arith, AdvancesHot-measure old new calls advances)
  AdvancesHot-measure_le old _ false _ (AdvancesHot.all_pinned hot raised pinned) =
      omega (
        arith,
        length-raised old.mark_cut rules.may_count old.hot hot raised,
        length-map hot
            (lowered 1),
      )

  -- nor does any grow when the hot ring is brought to its target
  pub EvictsToTarget-measure_le : (old new : CacheState K V) (calls : List (HookCall K V))
      → EvictsToTarget rules old calls new → ring_measure new ≤ ring_measure old
  EvictsToTarget-measure_le _ _ _ (EvictsToTarget.has_room old fits) = omega arith
  EvictsToTarget-measure_le _ _ _ (EvictsToTarget.gives_up old new calls above advances) =
      AdvancesHot-measure_le old new false calls advances
  EvictsToTarget-measure_le _ _ _ (EvictsToTarget.goes_on old mid new first rest above advances
      goes) =
      omega (
        arith,
        AdvancesHot-measure_le old mid true first advances,
        EvictsToTarget-measure_le
            mid new rest goes,
      )

  -- a cold advance that answers yes takes an item out of the cold ring, or one out of the hot ring
  pub AdvancesCold-measure : (old new : CacheState K V) (calls : List (HookCall K V))
      → AdvancesCold rules old true calls new → ring_measure new < ring_measure old
  AdvancesCold-measure old _ _ (AdvancesCold.promotes cold before item after calls new raised split
      passed marked goes) =
      omega (
        arith,
        length-raised old.mark_cut rules.may_count old.cold cold raised,
        length-split cold before item after split,
        EvictsToTarget-measure_le _ new calls goes,
        length-append old.hot (record item { mark = item.mark - 1; queue = Queue.Hot } ∷ []),
        length-append after before,
      )
  AdvancesCold-measure old _ _ (AdvancesCold.evicts cold before item after calls new raised split
      passed unmarked unpinned evicts) =
      omega (
        arith,
        length-raised old.mark_cut rules.may_count old.cold cold raised,
        length-split cold before item after split,
        EvictsVictim-measure Queue.Cold _ new item calls evicts,
        length-append after before,
      )
  AdvancesCold-measure old _ _ (AdvancesCold.passes_all cold _ calls new raised passed advances) =
      omega (
        arith,
        length-raised old.mark_cut rules.may_count old.cold cold raised,
        AdvancesHot-measure _ new
            calls advances,
      )
