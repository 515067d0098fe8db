-- Laws of states that are the same but for the order of what has none: they stay so in turn, and
-- eviction does not look at that order, so from either it leads to the same but for the order.
use Rattle.std.proofs.Common.{◌≡◌, ℕ, ◌+◌, ◌<◌, ◌≤◌, Bool, true, false, cond, List, [], ◌∷◌, ◌++◌, map, IsPermutation, refl, ap, subst, ◌∙◌}
use Rattle.std.proofs.Common.{arith}
use Rattle.std.specs.List.{count_by}
use Rattle.std.proofs.lemmas.List.Sorted.{IsPermutation-refl, IsPermutation-trans, IsPermutation-append_left, sum_by-IsPermutation}
use Rattle.quick_cache_model.specs.declared.queue.Queue.{Queue}
use Rattle.quick_cache_model.specs.CacheState.{CacheState, Item, LoadingEntry, Place, InHot, InCold, InStill, ring_place, with_items}
use Rattle.quick_cache_model.specs.CacheState.{items_at, entered, place_of_item, restarted_behind, keys_by, hot_weight, total_weight}
use Rattle.quick_cache_model.specs.CacheState.{SameButOrder, UpToOrder}
use Rattle.quick_cache_model.specs.Hooks.{Rules, HookCall}
use Rattle.quick_cache_model.specs.Touches.{RaisesMarks}
use Rattle.quick_cache_model.specs.Eviction.{lowered, ghosts_with, promoted, EvictsVictim, AdvancesHot, EvictsToTarget, AdvancesCold}
use Rattle.quick_cache_model.specs.Eviction.{EvictsToCapacity}

module _ {K V : Type 0} where
  -- a state is the same as itself
  pub SameButOrder-refl : (state : CacheState K V) → SameButOrder state state
  SameButOrder-refl state = record {
    still = IsPermutation-refl state.still;
    loading = IsPermutation-refl state.loading;
    same = refl;
  }

  -- and the same as what that is the same as
  pub SameButOrder-trans : (old mid new : CacheState K V) → SameButOrder old mid
      → SameButOrder mid new → SameButOrder old new
  SameButOrder-trans old mid new first second = record {
    still = IsPermutation-trans old.still mid.still new.still first.still second.still;
    loading = IsPermutation-trans old.loading mid.loading new.loading first.loading second.loading;
    same = second.same ∙ ap (λ (s : CacheState K V). record s
        { still = new.still; loading = new.loading }) first.same;
  }

  -- it has as many keys that pass a test
  pub SameButOrder-keys : (test : K → Bool) (old new : CacheState K V) → SameButOrder old new
      → keys_by test new ≡ keys_by test old
  SameButOrder-keys test old new order =
      omega (
        arith,
        ap (λ (s : CacheState K V). count_by (λ item. test item.key) s.hot) order.same,
        ap (λ (s : CacheState K V). count_by (λ item. test item.key) s.cold) order.same,
        sum_by-IsPermutation (λ (item : Item K V). cond (test item.key) 1 0)
            old.still new.still order.still,
        sum_by-IsPermutation (λ (entry : LoadingEntry K). cond (test entry.key) 1 0)
            old.loading new.loading order.loading,
      )

  -- what holds of a state holds of it up to the order
  pub UpToOrder-exact : (P : CacheState K V → Type 0) (new : CacheState K V) → P new
      → UpToOrder P new
  UpToOrder-exact P new holds = record {
    ordered = new;
    holds = holds;
    same = SameButOrder-refl new;
  }

  -- and then of each state that is the same but for the order
  pub UpToOrder-reordered : (P : CacheState K V → Type 0) (mid new : CacheState K V)
      → SameButOrder mid new → UpToOrder P mid → UpToOrder P new
  UpToOrder-reordered P mid new order up = record {
    ordered = up.ordered;
    holds = up.holds;
    same = SameButOrder-trans up.ordered mid new up.same order;
  }

  -- one fact in place of another
  pub UpToOrder-map : (P Q : CacheState K V → Type 0) (new : CacheState K V)
      → ((state : CacheState K V) → P state → Q state) → UpToOrder P new → UpToOrder Q new
  UpToOrder-map P Q new step up = record {
    ordered = up.ordered;
    holds = step up.ordered up.holds;
    same = up.same;
  }

  -- the same items of weight 0 in two orders, in states that are the same but for the order
  pub SameButOrder-still : (olds others : List (Item K V)) (old other : CacheState K V)
      → IsPermutation olds others → SameButOrder old other
      → SameButOrder (record old { still = olds }) (record other { still = others })
  SameButOrder-still olds others old other permuted order = record {
    still = permuted;
    loading = order.loading;
    same = ap (λ (s : CacheState K V). record s { still = others }) order.same;
  }

  -- the same other items in a ring
  pub with_items-reordered : (queue : Queue) (items : List (Item K V)) (old other : CacheState K V)
      → SameButOrder old other
      → SameButOrder (with_items (ring_place queue) items old)
      (with_items (ring_place queue) items other)
  with_items-reordered Queue.Hot items old other order = record {
    still = order.still;
    loading = order.loading;
    same = ap (λ (s : CacheState K V). record s { hot = items }) order.same;
  }
  with_items-reordered Queue.Cold items old other order = record {
    still = order.still;
    loading = order.loading;
    same = ap (λ (s : CacheState K V). record s { cold = items }) order.same;
  }

  -- an item that enters
  pub entered-reordered : (item : Item K V) (old other : CacheState K V) → SameButOrder old other
      → SameButOrder (entered item old) (entered item other)
  entered-reordered item old other order = go (place_of_item item)
    where
      go : (place : Place)
          → SameButOrder (with_items place (items_at place old ++ item ∷ []) old)
          (with_items place (items_at place other ++ item ∷ []) other)
      go InHot = record {
        still = order.still;
        loading = order.loading;
        same = ap (λ (s : CacheState K V). record s { hot = s.hot ++ item ∷ [] }) order.same;
      }
      go InCold = record {
        still = order.still;
        loading = order.loading;
        same = ap (λ (s : CacheState K V). record s { cold = s.cold ++ item ∷ [] }) order.same;
      }
      go InStill =
          SameButOrder-still (old.still ++ item ∷ []) (other.still ++ item ∷ []) old other
          (IsPermutation-append_left (item ∷ []) old.still other.still order.still) order

module _ {K V : Type 0} (rules : Rules K V) where
  -- an item of the cold ring that is promoted
  pub promoted-reordered : (before : List (Item K V)) (item : Item K V) (after : List (Item K V))
      (old other : CacheState K V) → SameButOrder old other
      → SameButOrder (promoted rules before item after old) (promoted rules before item after other)
  promoted-reordered before item after old other order = record {
    still = order.still;
    loading = order.loading;
    same = ap (λ (s : CacheState K V). promoted rules before item after s) order.same;
  }

  -- the ghosts once an item has left
  pub ghosts_with-reordered : (queue : Queue) (item : Item K V) (old other : CacheState K V)
      → SameButOrder old other
      → SameButOrder (ghosts_with rules queue item old) (ghosts_with rules queue item other)
  ghosts_with-reordered Queue.Hot item old other order = order
  ghosts_with-reordered Queue.Cold item old other order = record {
    still = order.still;
    loading = order.loading;
    same = ap (λ (s : CacheState K V). ghosts_with rules Queue.Cold item s) order.same;
  }

  -- the fate of a victim
  pub EvictsVictim-reordered : (queue : Queue) (old other new : CacheState K V) (item : Item K V)
      (calls : List (HookCall K V)) → SameButOrder old other
      → EvictsVictim rules queue other item calls new
      → UpToOrder (EvictsVictim rules queue old item calls) new
  EvictsVictim-reordered queue old other _ item _ order (EvictsVictim.stays left light) = record {
    ordered = entered (record item { value = left; weight = 0 }) old;
    holds = EvictsVictim.stays left light;
    same = entered-reordered (record item { value = left; weight = 0 }) old other order;
  }
  EvictsVictim-reordered queue old other _ item _ order (EvictsVictim.leaves left heavy) = record {
    ordered = ghosts_with rules queue item old;
    holds = EvictsVictim.leaves left heavy;
    same = ghosts_with-reordered queue item old other order;
  }

  -- a hot advance
  pub AdvancesHot-reordered : (old other new : CacheState K V) (answer : Bool)
      (calls : List (HookCall K V)) → SameButOrder old other
      → AdvancesHot rules other answer calls new
      → UpToOrder (AdvancesHot rules old answer calls) new
  AdvancesHot-reordered old other _ _ _ order (AdvancesHot.all_pinned hot raised pinned) = record {
    ordered = record old { hot = map (lowered 1) hot };
    holds = AdvancesHot.all_pinned hot
        (subst (λ (s : CacheState K V). RaisesMarks s.mark_cut rules.may_count s.hot hot)
        order.same raised) pinned;
    same = with_items-reordered Queue.Hot (map (lowered 1) hot) old other order;
  }
  AdvancesHot-reordered old other _ _ _ order (AdvancesHot.evicts hot before item after calls new
      raised split first evicts) =
      UpToOrder-map _ _ new
      (λ state. AdvancesHot.evicts hot before item after calls state
      (subst (λ (s : CacheState K V). RaisesMarks s.mark_cut rules.may_count s.hot hot)
      order.same raised) split first)
      (EvictsVictim-reordered Queue.Hot _ _ new (lowered item.mark item) calls
      (with_items-reordered Queue.Hot
      (restarted_behind (map (lowered (item.mark + 1)) before) (map (lowered item.mark) after))
      old other order) evicts)

  -- no eviction, where the hot weight is within its target
  pub EvictsToTarget-has_room : (old new : CacheState K V) → hot_weight old ≤ old.hot_target
      → SameButOrder old new → UpToOrder (EvictsToTarget rules old []) new
  EvictsToTarget-has_room old new fits order = record {
    ordered = old;
    holds = EvictsToTarget.has_room old fits;
    same = order;
  }

  -- a hot advance that answers no
  pub EvictsToTarget-gives_up : (old new : CacheState K V) (calls : List (HookCall K V))
      → old.hot_target < hot_weight old → UpToOrder (AdvancesHot rules old false calls) new
      → UpToOrder (EvictsToTarget rules old calls) new
  EvictsToTarget-gives_up old new calls above advances =
      UpToOrder-map _ _ new (λ state. EvictsToTarget.gives_up old state calls above) advances

  -- eviction down to the target
  pub EvictsToTarget-reordered : (old other new : CacheState K V) (calls : List (HookCall K V))
      → SameButOrder old other → EvictsToTarget rules other calls new
      → UpToOrder (EvictsToTarget rules old calls) new
  EvictsToTarget-reordered old _ _ _ order (EvictsToTarget.has_room other fits) =
      EvictsToTarget-has_room old other
      (subst (λ (s : CacheState K V). hot_weight s ≤ s.hot_target) order.same fits) order
  EvictsToTarget-reordered old _ _ _ order (EvictsToTarget.gives_up other new calls above
      advances) =
      EvictsToTarget-gives_up old new calls
      (subst (λ (s : CacheState K V). s.hot_target < hot_weight s) order.same above)
      (AdvancesHot-reordered old other new false calls order advances)
  EvictsToTarget-reordered old _ _ _ order (EvictsToTarget.goes_on other mid new first rest above
      advances goes) =
      let stepped = AdvancesHot-reordered old other mid true first order advances in
      UpToOrder-map _ _ new
      (λ state. EvictsToTarget.goes_on old stepped.ordered state first rest
      (subst (λ (s : CacheState K V). s.hot_target < hot_weight s) order.same above) stepped.holds)
      (EvictsToTarget-reordered stepped.ordered mid new rest stepped.same goes)

  -- a hot advance that answers yes, and eviction down to the target from there
  pub EvictsToTarget-goes_on : (old mid new : CacheState K V) (first rest : List (HookCall K V))
      → old.hot_target < hot_weight old → UpToOrder (AdvancesHot rules old true first) mid
      → UpToOrder (EvictsToTarget rules mid rest) new
      → UpToOrder (EvictsToTarget rules old (first ++ rest)) new
  EvictsToTarget-goes_on old mid new first rest above advances goes =
      UpToOrder-map _ _ new
      (λ state. EvictsToTarget.goes_on old advances.ordered state first rest above advances.holds)
      (UpToOrder-reordered _ goes.ordered new goes.same
      (EvictsToTarget-reordered advances.ordered mid goes.ordered rest advances.same goes.holds))

  -- a cold advance
  pub AdvancesCold-reordered : (old other new : CacheState K V) (answer : Bool)
      (calls : List (HookCall K V)) → SameButOrder old other
      → AdvancesCold rules other answer calls new
      → UpToOrder (AdvancesCold rules old answer calls) new
  AdvancesCold-reordered old other _ _ _ order (AdvancesCold.promotes cold before item after calls
      new raised split passed marked goes) =
      UpToOrder-map _ _ new
      (λ state. AdvancesCold.promotes cold before item after calls state
      (subst (λ (s : CacheState K V). RaisesMarks s.mark_cut rules.may_count s.cold cold)
      order.same raised) split passed marked)
      (EvictsToTarget-reordered _ _ new calls
      (promoted-reordered before item after old other order) goes)
  AdvancesCold-reordered old other _ _ _ order (AdvancesCold.evicts cold before item after calls
      new raised split passed unmarked unpinned evicts) =
      UpToOrder-map _ _ new
      (λ state. AdvancesCold.evicts cold before item after calls state
      (subst (λ (s : CacheState K V). RaisesMarks s.mark_cut rules.may_count s.cold cold)
      order.same raised) split passed unmarked unpinned)
      (EvictsVictim-reordered Queue.Cold _ _ new item calls
      (with_items-reordered Queue.Cold (restarted_behind before after) old other order) evicts)
  AdvancesCold-reordered old other _ _ _ order (AdvancesCold.passes_all cold answer calls new
      raised passed advances) =
      UpToOrder-map _ _ new
      (λ state. AdvancesCold.passes_all cold answer calls state
      (subst (λ (s : CacheState K V). RaisesMarks s.mark_cut rules.may_count s.cold cold)
      order.same raised) passed)
      (AdvancesHot-reordered _ _ new answer calls
      (with_items-reordered Queue.Cold cold old other order) advances)

  module _ (need : ℕ) where
    -- no eviction, where there is room for what is needed
    pub EvictsToCapacity-has_room : (old new : CacheState K V)
        → total_weight old + need ≤ old.capacity → SameButOrder old new
        → UpToOrder (EvictsToCapacity rules need old []) new
    EvictsToCapacity-has_room old new fits order = record {
      ordered = old;
      holds = EvictsToCapacity.has_room old fits;
      same = order;
    }

    -- a cold advance that answers no
    pub EvictsToCapacity-gives_up : (old new : CacheState K V) (calls : List (HookCall K V))
        → old.capacity < total_weight old + need
        → UpToOrder (AdvancesCold rules old false calls) new
        → UpToOrder (EvictsToCapacity rules need old calls) new
    EvictsToCapacity-gives_up old new calls above advances =
        UpToOrder-map _ _ new (λ state. EvictsToCapacity.gives_up old state calls above) advances

    -- eviction down to the capacity
    pub EvictsToCapacity-reordered : (old other new : CacheState K V) (calls : List (HookCall K V))
        → SameButOrder old other → EvictsToCapacity rules need other calls new
        → UpToOrder (EvictsToCapacity rules need old calls) new
    EvictsToCapacity-reordered old _ _ _ order (EvictsToCapacity.has_room other fits) =
        EvictsToCapacity-has_room old other
        (subst (λ (s : CacheState K V). total_weight s + need ≤ s.capacity) order.same fits) order
    EvictsToCapacity-reordered old _ _ _ order (EvictsToCapacity.gives_up other new calls above
        advances) =
        EvictsToCapacity-gives_up old new calls
        (subst (λ (s : CacheState K V). s.capacity < total_weight s + need) order.same above)
        (AdvancesCold-reordered old other new false calls order advances)
    EvictsToCapacity-reordered old _ _ _ order (EvictsToCapacity.goes_on other mid new first rest
        above advances goes) =
        let stepped = AdvancesCold-reordered old other mid true first order advances in
        UpToOrder-map _ _ new
        (λ state. EvictsToCapacity.goes_on old stepped.ordered state first rest
        (subst (λ (s : CacheState K V). s.capacity < total_weight s + need) order.same above)
        stepped.holds)
        (EvictsToCapacity-reordered stepped.ordered mid new rest stepped.same goes)

    -- a cold advance that answers yes, and eviction down to the capacity from there
    pub EvictsToCapacity-goes_on : (old mid new : CacheState K V) (first rest : List (HookCall K V))
        → old.capacity < total_weight old + need
        → UpToOrder (AdvancesCold rules old true first) mid
        → UpToOrder (EvictsToCapacity rules need mid rest) new
        → UpToOrder (EvictsToCapacity rules need old (first ++ rest)) new
    EvictsToCapacity-goes_on old mid new first rest above advances goes =
        UpToOrder-map _ _ new
        (λ state. EvictsToCapacity.goes_on old advances.ordered state first rest above
        advances.holds)
        (UpToOrder-reordered _ goes.ordered new goes.same
        (EvictsToCapacity-reordered advances.ordered mid goes.ordered rest advances.same
        goes.holds))
