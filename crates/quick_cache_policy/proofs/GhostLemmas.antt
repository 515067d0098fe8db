-- Eviction with the ghosts cut before it: the same steps, and the same ghosts once they are cut.
use Rattle.std.proofs.Common.{◌≡◌, ℕ, ◌+◌, ◌-◌, ◌<◌, ◌≤◌, Bool, true, false, List, [], ◌∷◌, ◌++◌, length, drop, map, refl, sym, ap, subst}
use Rattle.std.proofs.Common.{◌∙◌, arith}
use Rattle.std.proofs.lemmas.List.{drop-append-le, drop-drop, length-append, length-drop}
use Rattle.quick_cache_model.specs.declared.queue.Queue.{Queue}
use Rattle.quick_cache_model.specs.CacheState.{CacheState, Item, entered, restarted_behind, hot_weight, total_weight}
use Rattle.quick_cache_model.specs.Capacity.{resized, SetsCapacity}
use Rattle.quick_cache_model.specs.Hooks.{Rules, HookCall}
use Rattle.quick_cache_model.specs.Eviction.{newest, lowered, ghosts_with, promoted, EvictsVictim, AdvancesHot, EvictsToTarget}
use Rattle.quick_cache_model.specs.Eviction.{AdvancesCold, EvictsToCapacity}

module _ {K V : Type 0} where
  -- the state with its ghosts within their limit
  abbrev pub with_cut : CacheState K V → CacheState K V
  with_cut state = record state { ghosts = newest state.ghost_limit state.ghosts }

  -- the step leads to a state that is this one once its ghosts are cut
  abbrev pub CutBehind : (CacheState K V → Type 0) → CacheState K V → Type 0
  CutBehind step new = (whole : CacheState K V) × step whole × (new ≡ with_cut whole)

-- the newest are the same, be some that are too many dropped before
newest-drop : (n m : ℕ) (ghosts : List ℕ) → m ≤ length ghosts - n
    → newest n (drop m ghosts) ≡ newest n ghosts
newest-drop n m ghosts few =
    drop-drop (length (drop m ghosts) - n) m ghosts
    ∙ ap (λ (i : ℕ). drop i ghosts) (omega (arith, few, length-drop m ghosts))

-- the newest of the newest with one more are those of all with one more
newest-push : (n : ℕ) (ghosts : List ℕ) (hash : ℕ)
    → newest n (newest n ghosts ++ hash ∷ []) ≡ newest n (newest n (ghosts ++ hash ∷ []))
newest-push n ghosts hash =
    let all = ghosts ++ hash ∷ [] in
    let grows = length-append ghosts (hash ∷ []) in
    ap (λ (l : List ℕ). newest n l)
    (sym (drop-append-le (length ghosts - n) ghosts (hash ∷ []) (omega arith)))
    ∙ newest-drop n (length ghosts - n) all (omega (arith, grows))
    ∙ sym (newest-drop n (length all - n) all (omega arith))

module _ {K V : Type 0} (rules : Rules K V) where
  -- the fate of a victim
  EvictsVictim-cut : (queue : Queue) (old : CacheState K V) (item : Item K V)
      (calls : List (HookCall K V)) (new : CacheState K V)
      → EvictsVictim rules queue (with_cut old) item calls new
      → CutBehind (EvictsVictim rules queue old item calls) new
  EvictsVictim-cut queue old item _ _ (EvictsVictim.stays left light) =
      (entered (record item { value = left; weight = 0 }) old, EvictsVictim.stays left light, refl)
  EvictsVictim-cut Queue.Hot old item _ _ (EvictsVictim.leaves left heavy) =
      (old, EvictsVictim.leaves left heavy, refl)
  EvictsVictim-cut Queue.Cold old item _ _ (EvictsVictim.leaves left heavy) = (
    ghosts_with rules Queue.Cold item old,
    EvictsVictim.leaves left heavy,
    ap (λ (ghosts : List ℕ). record old { ghosts = ghosts })
        (newest-push old.ghost_limit old.ghosts (rules.hash item.key)),
  )

  -- a hot advance
  AdvancesHot-cut : (old : CacheState K V) (answer : Bool) (calls : List (HookCall K V))
      (new : CacheState K V) → AdvancesHot rules (with_cut old) answer calls new
      → CutBehind (AdvancesHot rules old answer calls) new
  AdvancesHot-cut old _ _ _ (AdvancesHot.all_pinned hot raised pinned) =
      (record old { hot = map (lowered 1) hot }, AdvancesHot.all_pinned hot raised pinned, refl)
  AdvancesHot-cut old _ _ _
      (AdvancesHot.evicts hot before item after calls new raised split first evicts) =
      let whole = EvictsVictim-cut Queue.Hot (record old {
        hot = restarted_behind (map (lowered (item.mark + 1)) before)
            (map (lowered item.mark) after);
      }) (lowered item.mark item) calls new evicts in (
        whole.0,
        AdvancesHot.evicts hot before item after calls whole.0 raised split first whole.1,
        whole.2,
      )

  -- eviction down to the target
  EvictsToTarget-cut : (old part new : CacheState K V) (calls : List (HookCall K V))
      → part ≡ with_cut old → EvictsToTarget rules part calls new
      → CutBehind (EvictsToTarget rules old calls) new
  EvictsToTarget-cut old _ _ _ is (EvictsToTarget.has_room part fits) = (
    old,
    EvictsToTarget.has_room old
        (subst (λ (s : CacheState K V). hot_weight s ≤ s.hot_target) is fits),
    is,
  )
  EvictsToTarget-cut old _ _ _ is (EvictsToTarget.gives_up part new calls above advances) =
      let whole = AdvancesHot-cut old false calls new
      (subst (λ (s : CacheState K V). AdvancesHot rules s false calls new) is advances) in (
        whole.0,
        EvictsToTarget.gives_up old whole.0 calls
            (subst (λ (s : CacheState K V). s.hot_target < hot_weight s) is above) whole.1,
        whole.2,
      )
  EvictsToTarget-cut old _ _ _ is
      (EvictsToTarget.goes_on part mid new first rest above advances goes) =
      let whole = AdvancesHot-cut old true first mid
      (subst (λ (s : CacheState K V). AdvancesHot rules s true first mid) is advances) in
      let end = EvictsToTarget-cut whole.0 mid new rest whole.2 goes in (
        end.0,
        EvictsToTarget.goes_on old whole.0 end.0 first rest
            (subst (λ (s : CacheState K V). s.hot_target < hot_weight s) is above) whole.1 end.1,
        end.2,
      )

  -- a cold advance
  AdvancesCold-cut : (old : CacheState K V) (answer : Bool) (calls : List (HookCall K V))
      (new : CacheState K V) → AdvancesCold rules (with_cut old) answer calls new
      → CutBehind (AdvancesCold rules old answer calls) new
  AdvancesCold-cut old _ _ _ (AdvancesCold.promotes cold before item after calls new raised split
      passed marked goes) =
      let whole = EvictsToTarget-cut (promoted rules before item after old) _ new calls refl goes in (
        whole.0,
        AdvancesCold.promotes cold before item after calls whole.0 raised split passed marked
            whole.1,
        whole.2,
      )
  AdvancesCold-cut old _ _ _ (AdvancesCold.evicts cold before item after calls new raised split
      passed unmarked unpinned evicts) =
      let whole = EvictsVictim-cut Queue.Cold (record old { cold = restarted_behind before after })
      item
      calls new evicts in (
        whole.0,
        AdvancesCold.evicts cold before item after calls whole.0 raised split passed unmarked
            unpinned whole.1,
        whole.2,
      )
  AdvancesCold-cut old _ _ _ (AdvancesCold.passes_all cold answer calls new raised passed advances)
      =
      let whole = AdvancesHot-cut (record old { cold = cold }) answer calls new advances in (
        whole.0,
        AdvancesCold.passes_all cold answer calls whole.0 raised passed whole.1,
        whole.2,
      )

  -- eviction down to the capacity
  EvictsToCapacity-cut : (need : ℕ) (old part new : CacheState K V) (calls : List (HookCall K V))
      → part ≡ with_cut old → EvictsToCapacity rules need part calls new
      → CutBehind (EvictsToCapacity rules need old calls) new
  EvictsToCapacity-cut need old _ _ _ is (EvictsToCapacity.has_room part fits) = (
    old,
    EvictsToCapacity.has_room old
        (subst (λ (s : CacheState K V). total_weight s + need ≤ s.capacity) is fits),
    is,
  )
  EvictsToCapacity-cut need old _ _ _ is
      (EvictsToCapacity.gives_up part new calls above advances) =
      let whole = AdvancesCold-cut old false calls new
      (subst (λ (s : CacheState K V). AdvancesCold rules s false calls new) is advances) in (
        whole.0,
        EvictsToCapacity.gives_up old whole.0 calls
            (subst (λ (s : CacheState K V). s.capacity < total_weight s + need) is above) whole.1,
        whole.2,
      )
  EvictsToCapacity-cut need old _ _ _ is
      (EvictsToCapacity.goes_on part mid new first rest above advances goes) =
      let whole = AdvancesCold-cut old true first mid
      (subst (λ (s : CacheState K V). AdvancesCold rules s true first mid) is advances) in
      let end = EvictsToCapacity-cut need whole.0 mid new rest whole.2 goes in (
        end.0,
        EvictsToCapacity.goes_on old whole.0 end.0 first rest
            (subst (λ (s : CacheState K V). s.capacity < total_weight s + need) is above) whole.1
            end.1,
        end.2,
      )

  -- a capacity is set where the ghosts are cut before the eviction
  pub SetsCapacity-cut : (capacity : ℕ) (old part new : CacheState K V)
      (calls : List (HookCall K V)) → part ≡ with_cut (resized rules capacity old)
      → EvictsToCapacity rules 0 part calls new → SetsCapacity rules capacity old calls new
  SetsCapacity-cut capacity old part new calls is evicts =
      let whole = EvictsToCapacity-cut 0 (resized rules capacity old) part new calls is evicts in
      subst (λ (s : CacheState K V). SetsCapacity rules capacity old calls s) (sym whole.2)
      (SetsCapacity.sets whole.0 calls whole.1)
