-- Making room leads each pair that was resident to be so still, or to be told to a hook.
use Rattle.std.proofs.Common.{◌≡◌, ℕ, ◌+◌, ◌-◌, Bool, true, false, List, ◌∷◌, ◌++◌, map, IsPermutation, sym, subst, ◌∙◌}
use Rattle.std.proofs.lemmas.List.{map-append}
use Rattle.std.proofs.lemmas.List.Sorted.{IsPermutation-refl, IsPermutation-sym, IsPermutation-trans}
use Rattle.quick_cache_model.specs.declared.queue.Queue.{Queue}
use Rattle.quick_cache_model.specs.CacheState.{CacheState, InHot, InCold, with_items}
use Rattle.quick_cache_model.specs.Hooks.{Rules, HookCall}
use Rattle.quick_cache_model.specs.Eviction.{lowered, promoted, AdvancesHot, EvictsToTarget, AdvancesCold, EvictsToCapacity}
use Rattle.quick_cache_model.specs.Removal.{pair_of}
use Rattle.quick_cache_model.specs.Fates.{residents}
use Rattle.quick_cache_model.specs.Leads.{Leads, Tells}
use Rattle.quick_cache_model.proofs.Leads.{Leads-same, Leads-from, Tells-append}
use Rattle.quick_cache_model.proofs.Victims.{EvictsVictim-tells}
use Rattle.quick_cache_model.proofs.Residents.{residents-put, residents-same, residents-found, residents-raised, pairs-lowered}

module _ {K V : Type 0} (rules : Rules K V) where
  AdvancesHot-tells : (old : CacheState K V) (answer : Bool) (calls : List (HookCall K V))
      (new : CacheState K V)
      → AdvancesHot rules old answer calls new → Tells (residents old) calls (residents new)
  AdvancesHot-tells old _ _ _ (AdvancesHot.all_pinned hot raised pinned) =
      Leads.rests (residents old) _ (subst (λ ps. IsPermutation (residents old) ps)
      (residents-raised InHot old.mark_cut rules.may_count hot old raised
      ∙ residents-same InHot hot (map (lowered 1) hot) old (sym (pairs-lowered 1 hot)))
      (IsPermutation-refl (residents old)))
  AdvancesHot-tells old _ _ _
      (AdvancesHot.evicts hot before item after calls new raised split first evicts) =
      let least = lowered item.mark item in
      let later = map (lowered item.mark) after in
      let earlier = map (lowered (item.mark + 1)) before in
      let mid = with_items InHot (later ++ earlier) old in
      let lower : residents (with_items InHot (after ++ before) old) ≡ residents mid =
      residents-same InHot (after ++ before) (later ++ earlier) old
      (map-append pair_of after before ∙ (λ i. sym (pairs-lowered item.mark after) i
      ++ sym (pairs-lowered (item.mark + 1) before) i)
      ∙ sym (map-append pair_of later earlier)) in
      Leads-from (residents old) (pair_of least ∷ residents mid)
      (subst (λ ps. IsPermutation (residents old) (pair_of item ∷ ps)) lower
      (residents-found InHot old.mark_cut rules.may_count hot before item after old raised split))
      (EvictsVictim-tells rules Queue.Hot mid least calls new evicts)

  EvictsToTarget-tells : (old : CacheState K V) (calls : List (HookCall K V))
      (new : CacheState K V)
      → EvictsToTarget rules old calls new → Tells (residents old) calls (residents new)
  EvictsToTarget-tells _ _ _ (EvictsToTarget.has_room old fits) = Leads-same (residents old)
  EvictsToTarget-tells _ _ _ (EvictsToTarget.gives_up old new calls above advances) =
      AdvancesHot-tells old false calls new advances
  EvictsToTarget-tells _ _ _
      (EvictsToTarget.goes_on old mid new first rest above advances goes) =
      Tells-append first rest (AdvancesHot-tells old true first mid advances)
      (EvictsToTarget-tells mid rest new goes)

  AdvancesCold-tells : (old : CacheState K V) (answer : Bool) (calls : List (HookCall K V))
      (new : CacheState K V)
      → AdvancesCold rules old answer calls new → Tells (residents old) calls (residents new)
  AdvancesCold-tells old _ _ _
      (AdvancesCold.promotes cold before item after calls new raised split passed marked goes) =
      let mid = promoted rules before item after old in
      let taken = with_items InCold (after ++ before) old in
      Leads-from (residents old) (residents mid)
      (IsPermutation-trans (residents old) (pair_of item ∷ residents taken) (residents mid)
      (residents-found InCold old.mark_cut rules.may_count cold before item after old raised split)
      (IsPermutation-sym _ _ (residents-put InHot
      (record item { mark = item.mark - 1; queue = Queue.Hot }) taken)))
      (EvictsToTarget-tells mid calls new goes)
  AdvancesCold-tells old _ _ _
      (AdvancesCold.evicts cold before item after calls new raised split passed unmarked
      unpinned evicts) =
      let mid = with_items InCold (after ++ before) old in
      Leads-from (residents old) (pair_of item ∷ residents mid)
      (residents-found InCold old.mark_cut rules.may_count cold before item after old raised split)
      (EvictsVictim-tells rules Queue.Cold mid item calls new evicts)
  AdvancesCold-tells old _ _ _
      (AdvancesCold.passes_all cold answer calls new raised passed advances) =
      subst (λ ps. Tells ps calls (residents new))
      (sym (residents-raised InCold old.mark_cut rules.may_count cold old raised))
      (AdvancesHot-tells (record old { cold = cold }) answer calls new advances)

  pub EvictsToCapacity-tells : (need : ℕ) (old : CacheState K V) (calls : List (HookCall K V))
      (new : CacheState K V)
      → EvictsToCapacity rules need old calls new
      → Tells (residents old) calls (residents new)
  EvictsToCapacity-tells need _ _ _ (EvictsToCapacity.has_room old fits) =
      Leads-same (residents old)
  EvictsToCapacity-tells need _ _ _
      (EvictsToCapacity.gives_up old new calls above advances) =
      AdvancesCold-tells old false calls new advances
  EvictsToCapacity-tells need _ _ _
      (EvictsToCapacity.goes_on old mid new first rest above advances goes) =
      Tells-append first rest (AdvancesCold-tells old true first mid advances)
      (EvictsToCapacity-tells need mid rest new goes)
