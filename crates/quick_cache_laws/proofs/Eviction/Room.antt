-- Laws of the room that was made: the items weigh at most the capacity, or nothing more could be
-- evicted.
use Rattle.std.proofs.Common.{◌≡◌, ℕ, ◌+◌, ◌≤◌, ◌⊎◌, inl, inr, true, false, List, [], ◌∷◌, map}
use Rattle.std.specs.List.{AllByRecursion}
use Rattle.quick_cache_model.specs.CacheState.{CacheState, Item, total_weight}
use Rattle.quick_cache_model.specs.Hooks.{Rules, HookCall}
use Rattle.quick_cache_model.specs.Eviction.{lowered, pinned, IsPassed, AdvancesHot, AdvancesCold, EvictsToCapacity}
use Rattle.quick_cache_laws.specs.Laws.{AreRingsPinned}

module _ {K V : Type 0} (rules : Rules K V) where
  -- pinned items stay pinned when their marks fall
  all_pinned-lowered : (n : ℕ) (items : List (Item K V))
      → AllByRecursion (λ item. pinned rules item ≡ true) items
      → AllByRecursion (λ item. pinned rules item ≡ true) (map (lowered n) items)
  all_pinned-lowered n [] all = tt
  all_pinned-lowered n (x ∷ xs) all = (all.0, all_pinned-lowered n xs all.1)

  -- items that are passed by are pinned
  all_passed-pinned : (items : List (Item K V)) → AllByRecursion (IsPassed rules) items
      → AllByRecursion (λ item. pinned rules item ≡ true) items
  all_passed-pinned [] all = tt
  all_passed-pinned (x ∷ xs) all = (all.0.1, all_passed-pinned xs all.1)

  -- an advance that answers no leaves pinned items alone in the rings
  pub AdvancesCold-no : (old new : CacheState K V) (calls : List (HookCall K V))
      → AdvancesCold rules old false calls new → AreRingsPinned rules new
  AdvancesCold-no old _ _ (AdvancesCold.passes_all cold _ _ _ raised passed
      (AdvancesHot.all_pinned hot raised_hot all)) =
      record { hot = all_pinned-lowered 1 hot all; cold = all_passed-pinned cold passed }

  -- room was made, or each item of the rings is pinned
  pub EvictsToCapacity-makes_room : (need : ℕ) (old new : CacheState K V)
      (calls : List (HookCall K V)) → EvictsToCapacity rules need old calls new
      → (total_weight new + need ≤ new.capacity) ⊎ AreRingsPinned rules new
  EvictsToCapacity-makes_room need _ _ _ (EvictsToCapacity.has_room old fits) = inl fits
  EvictsToCapacity-makes_room need _ _ _ (EvictsToCapacity.gives_up old new calls above advances)
      = inr (AdvancesCold-no old new calls advances)
  EvictsToCapacity-makes_room need _ _ _ (EvictsToCapacity.goes_on old mid new first rest above
      advances goes) = EvictsToCapacity-makes_room need mid new rest goes
