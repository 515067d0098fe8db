-- How room is made is determined: where no reader leaves touches, and what `before_evict` leaves is
-- a function of the pair, an advance and an eviction have one outcome.
use Rattle.std.proofs.Common.{◌≡◌, ℕ, ◌+◌, Bool, true, false, true≢false, List, [], ◌∷◌, ◌++◌, map, refl, sym, ap, subst, ◌∙◌, arith}
use Rattle.std.specs.List.{AllByRecursion}
use Rattle.quick_cache_model.specs.declared.queue.Queue.{Queue}
use Rattle.quick_cache_model.specs.CacheState.{CacheState, Item, entered, restarted_behind}
use Rattle.quick_cache_model.specs.Hooks.{Rules, HookCall, BeforeEvict, EvictHot, EvictCold, evicted}
use Rattle.quick_cache_model.specs.Touches.{RaisesMarks, with_touches}
use Rattle.quick_cache_model.specs.Eviction.{EvictsVictim, AdvancesHot, EvictsToTarget, AdvancesCold, EvictsToCapacity, IsPassed, lowered}
use Rattle.quick_cache_model.specs.Eviction.{pinned, promoted, ghosts_with, newest}
use Rattle.quick_cache_model.specs.Capacity.{SetsCapacity, resized}
use Rattle.quick_cache_laws.proofs.Eviction.OneVictim.{the_first_victim_is_one, the_first_taken_is_one, holds_between}

module _ {K V : Type 0} (rules : Rules K V) (leaves : K → V → V) where
  -- `before_evict` left what the function says
  abbrev pub LeavesSo : HookCall K V → Type 0
  LeavesSo (BeforeEvict key value left) = left ≡ leaves key value
  LeavesSo (EvictHot _ _) = Unit {0}
  LeavesSo (EvictCold _ _) = Unit {0}

  -- and so in each call of a list
  abbrev pub LeaveSo : List (HookCall K V) → Type 0
  LeaveSo calls = AllByRecursion LeavesSo calls

  front_leaves : (first rest : List (HookCall K V)) → LeaveSo (first ++ rest) → LeaveSo first
  front_leaves [] rest all = tt
  front_leaves (_ ∷ first) rest all = (all.0, front_leaves first rest all.1)

  back_leaves : (first rest : List (HookCall K V)) → LeaveSo (first ++ rest) → LeaveSo rest
  back_leaves [] rest all = all
  back_leaves (_ ∷ first) rest all = back_leaves first rest all.1

  -- two outcomes are the same
  abbrev pub IsSameOutcome : Bool → List (HookCall K V) → CacheState K V → Bool
      → List (HookCall K V) → CacheState K V → Type 0
  IsSameOutcome answer calls new answer' calls' new' = (answer ≡ answer') × (calls ≡ calls')
      × (new ≡ new')

  -- the fate of a victim
  one_fate
      : (queue : Queue) (old old' : CacheState K V) (item item' : Item K V)
      (calls calls' : List (HookCall K V))
      (new new' : CacheState K V) → old ≡ old' → item ≡ item'
      → EvictsVictim rules queue old item calls new
      → EvictsVictim rules queue old' item' calls' new' → LeaveSo calls → LeaveSo calls'
      → (calls ≡ calls') × (new ≡ new')
  one_fate queue old old' item item' _ _ _ _ same_old same (EvictsVictim.stays left weightless)
      (EvictsVictim.stays left' weightless') so so' =
      let lefts : left ≡ left' = so.0 ∙ (λ i. leaves (same i).key (same i).value) ∙ sym so'.0 in (
        (λ i. BeforeEvict (same i).key (same i).value (lefts i) ∷ []),
        (λ i. entered (record (same i) { value = lefts i; weight = 0 }) (same_old i)),
      )
  one_fate queue old old' item item' _ _ _ _ same_old same (EvictsVictim.stays left weightless)
      (EvictsVictim.leaves left' weighs) so so' =
      let lefts : left ≡ left' = so.0 ∙ (λ i. leaves (same i).key (same i).value) ∙ sym so'.0 in
      let weights : rules.weight item.key left ≡ rules.weight item'.key left' =
      λ i. rules.weight (same i).key (lefts i) in
      absurd (omega (arith, weightless, weighs, weights))
  one_fate queue old old' item item' _ _ _ _ same_old same (EvictsVictim.leaves left weighs)
      (EvictsVictim.stays left' weightless) so so' =
      let lefts : left ≡ left' = so.0 ∙ (λ i. leaves (same i).key (same i).value) ∙ sym so'.0 in
      let weights : rules.weight item.key left ≡ rules.weight item'.key left' =
      λ i. rules.weight (same i).key (lefts i) in
      absurd (omega (arith, weightless, weighs, weights))
  one_fate queue old old' item item' _ _ _ _ same_old same (EvictsVictim.leaves left weighs)
      (EvictsVictim.leaves left' weighs') so so' =
      let lefts : left ≡ left' = so.0 ∙ (λ i. leaves (same i).key (same i).value) ∙ sym so'.0 in (
        (λ i. BeforeEvict (same i).key (same i).value (lefts i) ∷ evicted queue (same i).key
            (lefts i) ∷ []),
        (λ i. ghosts_with rules queue (same i) (same_old i)),
      )

  module _ (untouched : (n : ℕ) → rules.may_count n → n ≡ 0) where
    -- an advance starts from the items as they are
    pub items_as_they_are : (cut : ℕ) (olds news : List (Item K V))
        → RaisesMarks cut rules.may_count olds news → news ≡ olds
    items_as_they_are cut [] [] raises = refl
    items_as_they_are cut [] (_ ∷ _) raises = absurd raises
    items_as_they_are cut (_ ∷ _) [] raises = absurd raises
    items_as_they_are cut (old ∷ olds) (new ∷ news) ((n, may, is_touched), raises) =
        let same : new ≡ old = is_touched ∙ ap (λ n. with_touches cut n old) (untouched n may) in
        let rest : news ≡ olds = items_as_they_are cut olds news raises in
        λ i. same i ∷ rest i

    -- a hot advance
    pub one_hot_advance
        : (old : CacheState K V) (answer answer' : Bool) (calls calls' : List (HookCall K V))
        (new new' : CacheState K V)
        → AdvancesHot rules old answer calls new → AdvancesHot rules old answer' calls' new'
        → LeaveSo calls
        → LeaveSo calls' → IsSameOutcome answer calls new answer' calls' new'
    one_hot_advance old _ _ _ _ _ _ (AdvancesHot.all_pinned hot raises all)
        (AdvancesHot.all_pinned hot' raises' all') so so' =
        let same : hot ≡ hot' = items_as_they_are old.mark_cut old.hot hot raises ∙ sym
        (items_as_they_are old.mark_cut old.hot hot' raises') in
        (refl, refl, (λ i. record old { hot = map (lowered 1) (same i) }))
    one_hot_advance old _ _ _ _ _ _ (AdvancesHot.all_pinned hot raises all)
        (AdvancesHot.evicts hot' before item after calls new raises' split victim fate) so so' =
        let same : hot ≡ hot' = items_as_they_are old.mark_cut old.hot hot raises ∙ sym
        (items_as_they_are old.mark_cut old.hot hot' raises') in
        absurd (true≢false (sym (holds_between (λ item. pinned rules item ≡ true) before item after
        (subst (AllByRecursion (λ item. pinned rules item ≡ true)) (same ∙ split) all))
        ∙ victim.unpinned))
    one_hot_advance old _ _ _ _ _ _ (AdvancesHot.evicts hot' before item after calls new raises'
        split victim fate)
        (AdvancesHot.all_pinned hot raises all) so so' =
        let same : hot ≡ hot' = items_as_they_are old.mark_cut old.hot hot raises ∙ sym
        (items_as_they_are old.mark_cut old.hot hot' raises') in
        absurd (true≢false (sym (holds_between (λ item. pinned rules item ≡ true) before item after
        (subst (AllByRecursion (λ item. pinned rules item ≡ true)) (same ∙ split) all))
        ∙ victim.unpinned))
    one_hot_advance old _ _ _ _ _ _ (AdvancesHot.evicts hot before item after calls new raises split
        victim fate)
        (AdvancesHot.evicts hot' before' item' after' calls' new' raises' split' victim' fate')
        so so' =
        let same : hot ≡ hot' = items_as_they_are old.mark_cut old.hot hot raises ∙ sym
        (items_as_they_are old.mark_cut old.hot hot' raises') in
        let one = the_first_victim_is_one rules before item after before' item' after'
        (sym split ∙ same ∙ split') victim victim' in
        let ends = one_fate Queue.Hot _ _ _ _ calls calls' new new'
        (λ i. record old {
          hot = restarted_behind (map (lowered ((one.1 i).mark + 1)) (one.0 i))
              (map (lowered (one.1 i).mark) (one.2 i));
        })
        (λ i. lowered (one.1 i).mark (one.1 i)) fate fate' so so' in
        (refl, ends.0, ends.1)

    -- down to the hot target
    pub one_eviction_to_target
        : (old : CacheState K V) (calls calls' : List (HookCall K V)) (new new' : CacheState K V)
        → EvictsToTarget rules old calls new → EvictsToTarget rules old calls' new' → LeaveSo calls
        → LeaveSo calls'
        → (calls ≡ calls') × (new ≡ new')
    one_eviction_to_target _ _ _ _ _ (EvictsToTarget.has_room old fits)
        (EvictsToTarget.has_room _ fits') so so' = (refl, refl)
    one_eviction_to_target _ _ _ _ _ (EvictsToTarget.has_room old fits)
        (EvictsToTarget.gives_up _ new' calls' over last) so so' =
        absurd (omega (arith, fits, over))
    one_eviction_to_target _ _ _ _ _ (EvictsToTarget.has_room old fits)
        (EvictsToTarget.goes_on _ mid' new' first' rest' over step rest) so so' =
        absurd (omega (arith, fits, over))
    one_eviction_to_target _ _ _ _ _ (EvictsToTarget.gives_up old new calls over last)
        (EvictsToTarget.has_room _ fits) so so' =
        absurd (omega (arith, fits, over))
    one_eviction_to_target _ _ _ _ _ (EvictsToTarget.gives_up old new calls over last)
        (EvictsToTarget.gives_up _ new' calls' over' last') so so' =
        let one = one_hot_advance old false false calls calls' new new' last last' so so' in
        (one.1, one.2)
    one_eviction_to_target _ _ _ _ _ (EvictsToTarget.gives_up old new calls over last)
        (EvictsToTarget.goes_on _ mid' new' first' rest' over' step' rests') so so' =
        absurd (true≢false (sym (one_hot_advance old false true calls first' new mid' last step' so
        (front_leaves first' rest' so')).0))
    one_eviction_to_target _ _ _ _ _ (EvictsToTarget.goes_on old mid new first rest over step rests)
        (EvictsToTarget.has_room _ fits) so so' = absurd (omega (arith, fits, over))
    one_eviction_to_target _ _ _ _ _ (EvictsToTarget.goes_on old mid new first rest over step rests)
        (EvictsToTarget.gives_up _ new' calls' over' last') so so' =
        absurd (true≢false (one_hot_advance old true false first calls' mid new' step last'
        (front_leaves first rest so) so').0)
    one_eviction_to_target _ _ _ _ _ (EvictsToTarget.goes_on old mid new first rest over step rests)
        (EvictsToTarget.goes_on _ mid' new' first' rest' over' step' rests') so so' =
        let one = one_hot_advance old true true first first' mid mid' step step'
        (front_leaves first rest so)
        (front_leaves first' rest' so') in
        let ends = one_eviction_to_target mid rest rest' new new' rests
        (subst (λ state. EvictsToTarget rules state rest' new') (sym one.2) rests')
        (back_leaves first rest so)
        (back_leaves first' rest' so') in
        ((λ i. one.1 i ++ ends.0 i), ends.1)

    -- the item that a cold advance takes is one
    one_taken
        : (old : CacheState K V) (cold cold' before before' : List (Item K V))
        (item item' : Item K V)
        (after after' : List (Item K V)) → RaisesMarks old.mark_cut rules.may_count old.cold cold
        → RaisesMarks old.mark_cut rules.may_count old.cold cold' → cold ≡ before ++ item ∷ after
        → cold' ≡ before' ++ item' ∷ after'
        → AllByRecursion (IsPassed rules) before → AllByRecursion (IsPassed rules) before'
        → (IsPassed rules item → ⊥)
        → (IsPassed rules item' → ⊥) → (before ≡ before') × (item ≡ item') × (after ≡ after')
    one_taken old cold cold' before before' item item' after after' raises raises' split split'
        passed passed' taken taken' =
        let same : cold ≡ cold' = items_as_they_are old.mark_cut old.cold cold raises ∙ sym
        (items_as_they_are old.mark_cut old.cold cold' raises') in
        the_first_taken_is_one (IsPassed rules) before item after before' item' after'
        (sym split ∙ same ∙ split') passed
        taken passed' taken'

    -- where each item is passed by, none is taken
    none_taken
        : (old : CacheState K V) (cold cold' before : List (Item K V)) (item : Item K V)
        (after : List (Item K V))
        → RaisesMarks old.mark_cut rules.may_count old.cold cold
        → RaisesMarks old.mark_cut rules.may_count old.cold cold'
        → cold ≡ before ++ item ∷ after → AllByRecursion (IsPassed rules) cold'
        → (IsPassed rules item → ⊥) → ⊥
    none_taken old cold cold' before item after raises raises' split all taken =
        let same : cold ≡ cold' = items_as_they_are old.mark_cut old.cold cold raises ∙ sym
        (items_as_they_are old.mark_cut old.cold cold' raises') in
        taken (holds_between (IsPassed rules) before item after
        (subst (AllByRecursion (IsPassed rules)) (sym same ∙ split) all))

    -- a cold advance
    pub one_cold_advance
        : (old : CacheState K V) (answer answer' : Bool) (calls calls' : List (HookCall K V))
        (new new' : CacheState K V)
        → AdvancesCold rules old answer calls new → AdvancesCold rules old answer' calls' new'
        → LeaveSo calls
        → LeaveSo calls' → IsSameOutcome answer calls new answer' calls' new'
    one_cold_advance old _ _ _ _ _ _ (AdvancesCold.promotes cold before item after calls new raises
        split passed marked evicts)
        (AdvancesCold.promotes cold' before' item' after' calls' new' raises' split' passed' marked'
        evicts') so so' =
        let one = one_taken old cold cold' before before' item item' after after' raises raises'
        split split' passed passed'
        (λ is_passed. omega (arith, is_passed.0, marked))
        (λ is_passed. omega (arith, is_passed.0, marked')) in
        let same : promoted rules before item after old ≡ promoted rules before' item' after' old =
        λ i. promoted rules (one.0 i) (one.1 i) (one.2 i) old in
        let ends = one_eviction_to_target (promoted rules before item after old)
        calls calls' new new' evicts
        (subst (λ state. EvictsToTarget rules state calls' new') (sym same) evicts') so so' in
        (refl, ends.0, ends.1)
    one_cold_advance old _ _ _ _ _ _ (AdvancesCold.promotes cold before item after calls new raises
        split passed marked evicts)
        (AdvancesCold.evicts cold' before' item' after' calls' new' raises' split' passed' unmarked
        unpinned fate) so so' =
        let one = one_taken old cold cold' before before' item item' after after' raises raises'
        split split' passed passed'
        (λ is_passed. omega (arith, is_passed.0, marked))
        (λ is_passed. true≢false (sym is_passed.1 ∙ unpinned)) in
        absurd (omega (arith, marked, unmarked, ap (λ item. item.mark) one.1))
    one_cold_advance old _ _ _ _ _ _ (AdvancesCold.promotes cold before item after calls new raises
        split passed marked evicts)
        (AdvancesCold.passes_all cold' answer' calls' new' raises' all advance) so so' =
        absurd (none_taken old cold cold' before item after raises raises' split all
        (λ is_passed. omega (arith, is_passed.0, marked)))
    one_cold_advance old _ _ _ _ _ _ (AdvancesCold.evicts cold before item after calls new raises
        split passed unmarked unpinned fate)
        (AdvancesCold.promotes cold' before' item' after' calls' new' raises' split' passed' marked
        evicts) so so' =
        let one = one_taken old cold cold' before before' item item' after after' raises raises'
        split split' passed passed'
        (λ is_passed. true≢false (sym is_passed.1 ∙ unpinned))
        (λ is_passed. omega (arith, is_passed.0, marked)) in
        absurd (omega (arith, marked, unmarked, ap (λ item. item.mark) one.1))
    one_cold_advance old _ _ _ _ _ _ (AdvancesCold.evicts cold before item after calls new raises
        split passed unmarked unpinned fate)
        (AdvancesCold.evicts cold' before' item' after' calls' new' raises' split' passed' unmarked'
        unpinned' fate') so so' =
        let one = one_taken old cold cold' before before' item item' after after' raises raises'
        split split' passed passed'
        (λ is_passed. true≢false (sym is_passed.1 ∙ unpinned))
        (λ is_passed. true≢false (sym is_passed.1 ∙ unpinned')) in
        let ends = one_fate Queue.Cold _ _ _ _ calls calls' new new'
        (λ i. record old { cold = restarted_behind (one.0 i) (one.2 i) }) one.1 fate fate' so so' in
        (refl, ends.0, ends.1)
    one_cold_advance old _ _ _ _ _ _ (AdvancesCold.evicts cold before item after calls new raises
        split passed unmarked unpinned fate)
        (AdvancesCold.passes_all cold' answer' calls' new' raises' all advance) so so' =
        absurd (none_taken old cold cold' before item after raises raises' split all
        (λ is_passed. true≢false (sym is_passed.1 ∙ unpinned)))
    one_cold_advance old _ _ _ _ _ _ (AdvancesCold.passes_all cold' answer calls new raises' all
        advance)
        (AdvancesCold.promotes cold before item after calls' new' raises split passed marked evicts)
        so so' =
        absurd (none_taken old cold cold' before item after raises raises' split all
        (λ is_passed. omega (arith, is_passed.0, marked)))
    one_cold_advance old _ _ _ _ _ _ (AdvancesCold.passes_all cold' answer calls new raises' all
        advance)
        (AdvancesCold.evicts cold before item after calls' new' raises split passed unmarked
        unpinned fate) so so' =
        absurd (none_taken old cold cold' before item after raises raises' split all
        (λ is_passed. true≢false (sym is_passed.1 ∙ unpinned)))
    one_cold_advance old _ _ _ _ _ _ (AdvancesCold.passes_all cold answer calls new raises all
        advance)
        (AdvancesCold.passes_all cold' answer' calls' new' raises' all' advance') so so' =
        let same : cold ≡ cold' = items_as_they_are old.mark_cut old.cold cold raises ∙ sym
        (items_as_they_are old.mark_cut old.cold cold' raises') in
        one_hot_advance (record old { cold = cold }) answer answer' calls calls' new new' advance
        (subst (λ cold. AdvancesHot rules (record old { cold = cold }) answer' calls' new')
        (sym same) advance') so so'

    -- down to the capacity
    pub one_eviction_to_capacity
        : (need : ℕ) (old : CacheState K V) (calls calls' : List (HookCall K V))
        (new new' : CacheState K V)
        → EvictsToCapacity rules need old calls new → EvictsToCapacity rules need old calls' new'
        → LeaveSo calls
        → LeaveSo calls' → (calls ≡ calls') × (new ≡ new')
    one_eviction_to_capacity need _ _ _ _ _ (EvictsToCapacity.has_room old fits)
        (EvictsToCapacity.has_room _ fits') so so' =
        (refl, refl)
    one_eviction_to_capacity need _ _ _ _ _ (EvictsToCapacity.has_room old fits)
        (EvictsToCapacity.gives_up _ new' calls' over last) so so' =
        absurd (omega (arith, fits, over))
    one_eviction_to_capacity need _ _ _ _ _ (EvictsToCapacity.has_room old fits)
        (EvictsToCapacity.goes_on _ mid' new' first' rest' over step rest) so so' =
        absurd (omega (arith, fits, over))
    one_eviction_to_capacity need _ _ _ _ _ (EvictsToCapacity.gives_up old new calls over last)
        (EvictsToCapacity.has_room _ fits) so so' = absurd (omega (arith, fits, over))
    one_eviction_to_capacity need _ _ _ _ _ (EvictsToCapacity.gives_up old new calls over last)
        (EvictsToCapacity.gives_up _ new' calls' over' last') so so' =
        let one = one_cold_advance old false false calls calls' new new' last last' so so' in
        (one.1, one.2)
    one_eviction_to_capacity need _ _ _ _ _ (EvictsToCapacity.gives_up old new calls over last)
        (EvictsToCapacity.goes_on _ mid' new' first' rest' over' step' rests') so so' =
        absurd (true≢false (sym (one_cold_advance old false true calls first' new mid' last step' so
        (front_leaves first' rest' so')).0))
    one_eviction_to_capacity need _ _ _ _ _ (EvictsToCapacity.goes_on old mid new first rest over
        step rests)
        (EvictsToCapacity.has_room _ fits) so so' = absurd (omega (arith, fits, over))
    one_eviction_to_capacity need _ _ _ _ _ (EvictsToCapacity.goes_on old mid new first rest over
        step rests)
        (EvictsToCapacity.gives_up _ new' calls' over' last') so so' =
        absurd (true≢false (one_cold_advance old true false first calls' mid new' step last'
        (front_leaves first rest so) so').0)
    one_eviction_to_capacity need _ _ _ _ _ (EvictsToCapacity.goes_on old mid new first rest over
        step rests)
        (EvictsToCapacity.goes_on _ mid' new' first' rest' over' step' rests') so so' =
        let one = one_cold_advance old true true first first' mid mid' step step'
        (front_leaves first rest so)
        (front_leaves first' rest' so') in
        let ends = one_eviction_to_capacity need mid rest rest' new new' rests
        (subst (λ state. EvictsToCapacity rules need state rest' new') (sym one.2) rests')
        (back_leaves first rest so)
        (back_leaves first' rest' so') in
        ((λ i. one.1 i ++ ends.0 i), ends.1)

    -- setting the capacity
    pub one_capacity_setting
        : (capacity : ℕ) (old : CacheState K V) (calls calls' : List (HookCall K V))
        (new new' : CacheState K V)
        → SetsCapacity rules capacity old calls new → SetsCapacity rules capacity old calls' new'
        → LeaveSo calls
        → LeaveSo calls' → (calls ≡ calls') × (new ≡ new')
    one_capacity_setting capacity old _ _ _ _ (SetsCapacity.sets mid calls evicts)
        (SetsCapacity.sets mid' calls' evicts') so so' =
        let one = one_eviction_to_capacity 0 (resized rules capacity old)
        calls calls' mid mid' evicts evicts' so so' in
        (one.0, (λ i. record (one.1 i) { ghosts = newest (one.1 i).ghost_limit (one.1 i).ghosts }))
