-- Eviction keeps each item where its weight and its queue say.
use Rattle.std.proofs.Common.{ℕ, ◌+◌, ◌-◌, ◌≤◌, Bool, true, false, List, [], ◌∷◌, ◌++◌, map, refl, sym, subst, ◌∙◌, arith}
use Rattle.std.specs.List.{AllByRecursion}
use Rattle.quick_cache_model.specs.declared.queue.Queue.{Queue}
use Rattle.quick_cache_model.specs.CacheState.{CacheState, Item, IsRingItem, IsStillItem}
use Rattle.quick_cache_model.specs.Hooks.{Rules, HookCall}
use Rattle.quick_cache_model.specs.Touches.{TakesTouches, RaisesMarks}
use Rattle.quick_cache_model.specs.Eviction.{lowered, EvictsVictim, AdvancesHot, EvictsToTarget, AdvancesCold, EvictsToCapacity}
use Rattle.quick_cache_model.proofs.TouchLaws.{with_touches-weight, with_touches-queue, with_touches-mark}
use Rattle.quick_cache_model.proofs.EachElement.{all-append, all-left, all-right, all-middle, all-restarted, all-push}

module _ {K V : Type 0} where
  -- each item of the state stands where its weight and its queue say
  pub record IsInPlace (state : CacheState K V) : Type 0 where
    pub in_hot : AllByRecursion (IsRingItem state.mark_cut Queue.Hot) state.hot
    pub in_cold : AllByRecursion (IsRingItem state.mark_cut Queue.Cold) state.cold
    pub in_still : AllByRecursion (IsStillItem state.mark_cut) state.still

  -- touches keep an item in its ring
  pub IsRingItem-touched : (cut : ℕ) (queue : Queue) (may_count : ℕ → Type 0) (old new : Item K V)
      → TakesTouches cut may_count old new → IsRingItem cut queue old → IsRingItem cut queue new
  IsRingItem-touched cut queue may_count old new takes ring =
      subst (λ (i : Item K V). IsRingItem cut queue i) (sym takes.2)
      (record {
        weighs = omega (arith, ring.weighs, with_touches-weight cut takes.0 old);
        of_queue = with_touches-queue cut takes.0 old ∙ ring.of_queue;
        marked = with_touches-mark cut takes.0 old ring.marked;
      })

  -- and each item of a ring
  pub all-raised : (cut : ℕ) (queue : Queue) (may_count : ℕ → Type 0) (old new : List (Item K V))
      → RaisesMarks cut may_count old new
      → AllByRecursion (IsRingItem cut queue) old → AllByRecursion (IsRingItem cut queue) new
  all-raised cut queue may_count [] [] raised ring = tt
  all-raised cut queue may_count [] (y ∷ ys) raised ring = absurd raised
  all-raised cut queue may_count (x ∷ xs) [] raised ring = absurd raised
  all-raised cut queue may_count (x ∷ xs) (y ∷ ys) raised ring = (
    IsRingItem-touched cut queue may_count x y raised.0 ring.0,
    all-raised cut queue may_count xs ys
        raised.1 ring.1,
  )

  -- so do lowered marks
  pub IsRingItem-lowered : (cut : ℕ) (queue : Queue) (n : ℕ) (item : Item K V)
      → IsRingItem cut queue item
      → IsRingItem cut queue (lowered n item)
  IsRingItem-lowered cut queue n item ring = record
      { weighs = ring.weighs; of_queue = ring.of_queue; marked = omega (arith, ring.marked) }

  -- and so they do at each item of a ring
  pub all-lowered : (cut : ℕ) (queue : Queue) (n : ℕ) (items : List (Item K V))
      → AllByRecursion (IsRingItem cut queue) items
      → AllByRecursion (IsRingItem cut queue) (map (lowered n) items)
  all-lowered cut queue n [] ring = tt
  all-lowered cut queue n (x ∷ xs) ring = (
    IsRingItem-lowered cut queue n x ring.0,
    all-lowered cut queue n xs
        ring.1,
  )

module _ {K V : Type 0} (rules : Rules K V) where
  -- a victim leaves, or stays without weight
  pub EvictsVictim-in_place : (queue : Queue) (old new : CacheState K V) (item : Item K V)
      (calls : List (HookCall K V))
      → EvictsVictim rules queue old item calls new → item.mark ≤ old.mark_cut → IsInPlace old
      → IsInPlace new
  EvictsVictim-in_place queue old _ item _ (EvictsVictim.stays left light) marked place = record {
    in_hot = place.in_hot;
    in_cold = place.in_cold;
    in_still = all-push (IsStillItem old.mark_cut) old.still
        (record item { value = left; weight = 0 })
        place.in_still (record { weightless = refl; marked = marked });
  }
  EvictsVictim-in_place Queue.Hot old _ item _ (EvictsVictim.leaves left heavy) marked place = place
  EvictsVictim-in_place Queue.Cold old _ item _ (EvictsVictim.leaves left heavy) marked place =
      record { in_hot = place.in_hot; in_cold = place.in_cold; in_still = place.in_still }

  -- a hot advance keeps each item in place
  pub AdvancesHot-in_place : (old new : CacheState K V) (answer : Bool)
      (calls : List (HookCall K V))
      → AdvancesHot rules old answer calls new → IsInPlace old → IsInPlace new
  AdvancesHot-in_place old _ _ _ (AdvancesHot.all_pinned hot raised pinned) place = record {
    in_hot = all-lowered old.mark_cut Queue.Hot 1 hot
        (all-raised old.mark_cut Queue.Hot rules.may_count old.hot hot raised place.in_hot);
    in_cold = place.in_cold;
    in_still = place.in_still;
  }
  AdvancesHot-in_place old _ _ _ (AdvancesHot.evicts hot before item after calls new raised split
      first evicts) place =
      let ring : AllByRecursion (IsRingItem old.mark_cut Queue.Hot) (before ++ item ∷ after) =
      subst (λ (xs : List (Item K V)). AllByRecursion (IsRingItem old.mark_cut Queue.Hot) xs) split
      (all-raised old.mark_cut Queue.Hot rules.may_count old.hot hot raised place.in_hot)
      in
      EvictsVictim-in_place Queue.Hot _ new (lowered item.mark item) calls evicts (omega arith)
      (record {
        in_hot = all-append (IsRingItem old.mark_cut Queue.Hot) (map (lowered item.mark) after)
            (map (lowered (item.mark + 1)) before)
            (all-lowered old.mark_cut Queue.Hot item.mark after
            (all-right (IsRingItem old.mark_cut Queue.Hot) before (item ∷ after)
            ring).1)
            (all-lowered old.mark_cut Queue.Hot (item.mark + 1) before
            (all-left (IsRingItem old.mark_cut Queue.Hot) before (item ∷ after) ring));
        in_cold = place.in_cold;
        in_still = place.in_still;
      })

  -- so does eviction down to the target
  pub EvictsToTarget-in_place : (old new : CacheState K V) (calls : List (HookCall K V))
      → EvictsToTarget rules old calls new → IsInPlace old → IsInPlace new
  EvictsToTarget-in_place _ _ _ (EvictsToTarget.has_room old fits) place = place
  EvictsToTarget-in_place _ _ _ (EvictsToTarget.gives_up old new calls above advances) place =
      AdvancesHot-in_place old new false calls advances place
  EvictsToTarget-in_place _ _ _ (EvictsToTarget.goes_on old mid new first rest above advances goes)
      place =
      EvictsToTarget-in_place mid new rest goes
      (AdvancesHot-in_place old mid true first advances place)

  -- a cold advance
  pub AdvancesCold-in_place : (old new : CacheState K V) (answer : Bool)
      (calls : List (HookCall K V))
      → AdvancesCold rules old answer calls new → IsInPlace old → IsInPlace new
  AdvancesCold-in_place old _ _ _ (AdvancesCold.promotes cold before item after calls new raised
      split passed marked goes) place =
      let ring : AllByRecursion (IsRingItem old.mark_cut Queue.Cold) (before ++ item ∷ after) =
      subst (λ (xs : List (Item K V)). AllByRecursion (IsRingItem old.mark_cut Queue.Cold) xs) split
      (all-raised old.mark_cut Queue.Cold rules.may_count old.cold cold raised place.in_cold)
      in
      let was : IsRingItem old.mark_cut Queue.Cold item =
      all-middle (IsRingItem old.mark_cut Queue.Cold) before item after ring in
      EvictsToTarget-in_place _ new calls goes
      (record {
        in_hot = all-push (IsRingItem old.mark_cut Queue.Hot) old.hot
            (record item { mark = item.mark - 1; queue = Queue.Hot }) place.in_hot
            (record { weighs = was.weighs; of_queue = refl; marked = omega (arith, was.marked) });
        in_cold = all-restarted (IsRingItem old.mark_cut Queue.Cold) before item after ring;
        in_still = place.in_still;
      })
  AdvancesCold-in_place old _ _ _ (AdvancesCold.evicts cold before item after calls new raised split
      passed unmarked unpinned evicts) place =
      let ring : AllByRecursion (IsRingItem old.mark_cut Queue.Cold) (before ++ item ∷ after) =
      subst (λ (xs : List (Item K V)). AllByRecursion (IsRingItem old.mark_cut Queue.Cold) xs) split
      (all-raised old.mark_cut Queue.Cold rules.may_count old.cold cold raised place.in_cold)
      in
      EvictsVictim-in_place Queue.Cold _ new item calls evicts (omega (arith, unmarked))
      (record {
        in_hot = place.in_hot;
        in_cold =
            all-restarted (IsRingItem old.mark_cut Queue.Cold) before item after ring;
        in_still = place.in_still;
      })
  AdvancesCold-in_place old _ _ _ (AdvancesCold.passes_all cold answer calls new raised passed
      advances) place =
      AdvancesHot-in_place _ new answer calls advances
      (record {
        in_hot = place.in_hot;
        in_cold =
            all-raised old.mark_cut Queue.Cold rules.may_count old.cold cold raised place.in_cold;
        in_still =
            place.in_still;
      })

  -- and eviction down to the capacity
  pub EvictsToCapacity-in_place : (need : ℕ) (old new : CacheState K V)
      (calls : List (HookCall K V))
      → EvictsToCapacity rules need old calls new → IsInPlace old → IsInPlace new
  EvictsToCapacity-in_place need _ _ _ (EvictsToCapacity.has_room old fits) place = place
  EvictsToCapacity-in_place need _ _ _ (EvictsToCapacity.gives_up old new calls above advances)
      place = AdvancesCold-in_place old new false calls advances place
  EvictsToCapacity-in_place need _ _ _ (EvictsToCapacity.goes_on old mid new first rest above
      advances goes) place =
      EvictsToCapacity-in_place need mid new rest goes
      (AdvancesCold-in_place old mid true first advances place)
