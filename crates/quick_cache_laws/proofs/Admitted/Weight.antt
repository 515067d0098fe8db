-- After a write or a fill of a pair that passed its check, the items that are not pinned weigh at
-- most the capacity.
use Rattle.std.proofs.Common.{◌≡◌, ℕ, ◌+◌, ◌<◌, ◌≤◌, ◌⊎◌, inl, inr, Bool, List, [], ◌∷◌, ◌++◌, None, refl, sym, ap, ap₂, subst, arith}
use Rattle.quick_cache_model.specs.declared.queue.Queue.{Queue}
use Rattle.quick_cache_model.specs.CacheState.{CacheState, Item, LoadingEntry, Place, InHot, InCold, InStill, entered, place_of_item}
use Rattle.quick_cache_model.specs.CacheState.{total_weight, IsValid, SameButOrder, UpToOrder}
use Rattle.quick_cache_model.specs.Hooks.{Rules, HookCall, EvictCold}
use Rattle.quick_cache_model.specs.Eviction.{EvictsToCapacity}
use Rattle.quick_cache_model.specs.Admission.{Admitted, TooHeavy, ChecksAdmission, PassesCheck}
use Rattle.quick_cache_model.specs.Writes.{Strategy, new_item, queue_for, WritesAdmitted, Writes}
use Rattle.quick_cache_model.specs.Placeholders.{MakesRoomFor, FillsPlaceholder, IsLoadingTicket}
use Rattle.quick_cache_laws.specs.Laws.{AreRingsPinned}
use Rattle.quick_cache_laws.specs.Admitted.{unpinned_weight}
use Rattle.quick_cache_model.proofs.Valid.Places.{put}
use Rattle.quick_cache_model.proofs.EvictionKeeps.{EvictsToCapacity-beside}
use Rattle.quick_cache_laws.proofs.Eviction.Room.{EvictsToCapacity-makes_room}
use Rattle.quick_cache_laws.proofs.Admitted.Checks.{passed_is_not_too_heavy, passed_leaves}
use Rattle.quick_cache_laws.proofs.Admitted.Tickets.{one_of_ticket}
use Rattle.quick_cache_laws.proofs.Admitted.UnpinnedWeight.{unpinned, unpinned-le, unpinned-pinned, unpinned_weight-le}
use Rattle.quick_cache_laws.proofs.Admitted.UnpinnedWeight.{unpinned_weight-none, unpinned_weight-entered}

module _ {K V : Type 0} (rules : Rules K V) where
  -- eviction ends within the capacity, but for what is pinned
  evicted-within : (old new : CacheState K V) (calls : List (HookCall K V))
      → EvictsToCapacity rules 0 old calls new → unpinned_weight rules new ≤ new.capacity
  evicted-within old new calls evicts = go (EvictsToCapacity-makes_room rules 0 old new calls
      evicts)
    where
      go : (total_weight new + 0 ≤ new.capacity) ⊎ AreRingsPinned rules new
          → unpinned_weight rules new ≤ new.capacity
      go (inl fits) = omega (arith, fits, unpinned_weight-le rules new)
      go (inr all) = omega (arith, unpinned_weight-none rules new all)

  -- a pair that was admitted weighs at most the target, if it is not pinned
  admitted-light : (target : ℕ) (key : K) (value left : V) (mark : ℕ) (queue : Queue)
      (calls : List (HookCall K V)) → ChecksAdmission rules target key value calls (Admitted left)
      → unpinned rules (new_item rules key left queue mark) ≤ target
  admitted-light target key value _ mark queue _ (ChecksAdmission.is_light light) =
      omega (arith, light, unpinned-le rules (new_item rules key value queue mark))
  admitted-light target key value _ mark queue _ (ChecksAdmission.is_pinned heavy pins) =
      omega (arith, unpinned-pinned rules (new_item rules key value queue mark) pins)
  admitted-light target key value _ mark queue _
      (ChecksAdmission.was_lightened left heavy free light) =
      omega (arith, light, unpinned-le rules (new_item rules key left queue mark))

  capacity-put : (place : Place) (item : Item K V) (state : CacheState K V)
      → (put place item state).capacity ≡ state.capacity
  capacity-put InHot item state = refl
  capacity-put InCold item state = refl
  capacity-put InStill item state = refl

  -- the write of an admitted pair
  WritesAdmitted-within : (equal_to : K → Bool) (key : K) (strategy : Strategy)
      (old : CacheState K V) (value left : V) (first rest : List (HookCall K V))
      (new : CacheState K V)
      → ChecksAdmission rules old.hot_target key value first (Admitted left)
      → WritesAdmitted rules equal_to key strategy old left rest None new
      → old.hot_target ≤ old.capacity → unpinned_weight rules new ≤ new.capacity
  WritesAdmitted-within equal_to key strategy old value left first _ _ passed
      (WritesAdmitted.inserts_new mid calls inserts nothing evicts) sized =
      go (EvictsToCapacity-makes_room rules (rules.weight key left) old mid calls evicts)
    where
      item : Item K V
      item = new_item rules key left (queue_for rules old key left Queue.Cold) 0

      go : (total_weight mid + rules.weight key left ≤ mid.capacity) ⊎ AreRingsPinned rules mid
          → unpinned_weight rules (entered item mid) ≤ (entered item mid).capacity
      go (inl fits) = omega (
        arith,
        fits,
        unpinned-le rules item,
        unpinned_weight-le rules mid,
        unpinned_weight-entered rules item mid,
        capacity-put (place_of_item item) item mid,
      )
      go (inr all) = omega (
        arith,
        sized,
        admitted-light old.hot_target key value left 0
            (queue_for rules old key left Queue.Cold) first passed,
        unpinned_weight-none rules mid all,
        unpinned_weight-entered rules item mid,
        capacity-put (place_of_item item) item mid,
        (EvictsToCapacity-beside rules (rules.weight key left) old mid calls evicts).capacity,
      )
  WritesAdmitted-within equal_to key strategy old value left first _ _ passed
      (WritesAdmitted.overwrites place before item touched after calls new there takes evicts)
      sized =
      evicted-within _ new calls evicts
  WritesAdmitted-within equal_to key strategy old value left first _ _ passed
      (WritesAdmitted.inserts_over_ghost before after calls new inserts there evicts) sized =
      evicted-within _ new calls evicts
  WritesAdmitted-within equal_to key strategy old value left first _ _ passed
      (WritesAdmitted.inserts_over_loading before entry after calls new inserts there evicts)
      sized =
      evicted-within _ new calls evicts

  -- a write whose pair passed its check
  pub Writes-within : (equal_to : K → Bool) (key : K) (strategy : Strategy)
      (old new : CacheState K V) (value left : V) (calls : List (HookCall K V))
      → Writes rules equal_to key strategy old value calls None new
      → PassesCheck rules old.hot_target key value calls left
      → old.hot_target ≤ old.capacity → unpinned_weight rules new ≤ new.capacity
  Writes-within equal_to key strategy old _ value left _
      (Writes.admitted first rest value' answer new checks writes) passed sized =
      WritesAdmitted-within equal_to key strategy old value value' first rest new checks writes
      sized
  Writes-within equal_to key strategy old _ value left _
      (Writes.too_heavy first rest value' answer new checks rejects) passed sized =
      absurd (passed_is_not_too_heavy rules old.hot_target key value (first ++ rest) first rest left
      value' passed refl checks)

  -- a fill whose value passed its check with a weight above 0
  pub FillsPlaceholder-within : (equal : K → K → Bool) (ticket : ℕ) (marked : Bool)
      (old new : CacheState K V) (value left : V) (calls : List (HookCall K V))
      (before : List (LoadingEntry K)) (entry : LoadingEntry K) (after : List (LoadingEntry K))
      → IsValid equal old → IsLoadingTicket ticket old before entry after
      → FillsPlaceholder ticket old rules marked value calls None new
      → PassesCheck rules old.hot_target entry.key value calls left
      → 0 < rules.weight entry.key left → unpinned_weight rules new ≤ new.capacity
  FillsPlaceholder-within equal ticket marked old _ value left _ before entry after valid there
      (FillsPlaceholder.fills before' entry' after' left' first rest new there' checks makes) passed
      weighs = made (rules.weight entry'.key left') _ rest new
      (subst (λ (n : ℕ). 0 < n) (sym same_weight) weighs) makes
    where
      same_entry : entry' ≡ entry
      same_entry = one_of_ticket equal ticket old before' entry' after' before entry after
          valid there' there

      checked : ChecksAdmission rules old.hot_target entry.key value first (Admitted left')
      checked = subst (λ (e : LoadingEntry K).
          ChecksAdmission rules old.hot_target e.key value first (Admitted left')) same_entry checks

      same_weight : rules.weight entry'.key left' ≡ rules.weight entry.key left
      same_weight = ap₂ rules.weight (ap (λ (e : LoadingEntry K). e.key) same_entry)
          (passed_leaves rules old.hot_target entry.key value (first ++ rest) first rest left left'
          passed refl checked)

      made : (weight : ℕ) (mid : CacheState K V) (calls : List (HookCall K V))
          (last : CacheState K V)
          → 0 < weight → MakesRoomFor ticket old rules weight mid calls last
          → unpinned_weight rules last ≤ last.capacity
      made weight mid _ _ some (MakesRoomFor.takes_none none) = absurd (omega (arith, some, none))
      made weight mid _ _ some (MakesRoomFor.takes_some calls last more evicts) =
          evicted-within mid last calls evicts
  FillsPlaceholder-within equal ticket marked old _ value left _ before entry after valid there
      (FillsPlaceholder.too_heavy before' entry' after' left' first there' checks) passed weighs =
      absurd (passed_is_not_too_heavy rules old.hot_target entry.key value
      (first ++ EvictCold entry'.key left' ∷ []) first (EvictCold entry'.key left' ∷ []) left left'
      passed refl
      (subst (λ (e : LoadingEntry K).
      ChecksAdmission rules old.hot_target e.key value first (TooHeavy left'))
      (one_of_ticket equal ticket old before' entry' after' before entry after valid there' there)
      checks))

  -- another order of what has none weighs the same
  SameButOrder-within : (old new : CacheState K V) → SameButOrder old new
      → unpinned_weight rules old ≤ old.capacity → unpinned_weight rules new ≤ new.capacity
  SameButOrder-within old new order within =
      subst (λ (s : CacheState K V). unpinned_weight rules s ≤ s.capacity) (sym order.same) within

  -- a write whose pair passed its check, up to order
  pub Writes-within_to_order : (equal_to : K → Bool) (key : K) (strategy : Strategy)
      (old new : CacheState K V) (value left : V) (calls : List (HookCall K V))
      → UpToOrder (λ state. Writes rules equal_to key strategy old value calls None state) new
      → PassesCheck rules old.hot_target key value calls left
      → old.hot_target ≤ old.capacity → unpinned_weight rules new ≤ new.capacity
  Writes-within_to_order equal_to key strategy old new value left calls step passed sized =
      SameButOrder-within step.ordered new step.same
      (Writes-within equal_to key strategy old step.ordered value left calls step.holds passed
      sized)

  -- a fill whose value passed its check with a weight above 0, up to order
  pub FillsPlaceholder-within_to_order : (equal : K → K → Bool) (ticket : ℕ) (marked : Bool)
      (old new : CacheState K V) (value left : V) (calls : List (HookCall K V))
      (before : List (LoadingEntry K)) (entry : LoadingEntry K) (after : List (LoadingEntry K))
      → IsValid equal old → IsLoadingTicket ticket old before entry after
      → UpToOrder (λ state. FillsPlaceholder ticket old rules marked value calls None state) new
      → PassesCheck rules old.hot_target entry.key value calls left
      → 0 < rules.weight entry.key left → unpinned_weight rules new ≤ new.capacity
  FillsPlaceholder-within_to_order equal ticket marked old new value left calls before entry after
      valid there step passed weighs =
      SameButOrder-within step.ordered new step.same
      (FillsPlaceholder-within equal ticket marked old step.ordered value left calls before entry
      after valid there step.holds passed weighs)
