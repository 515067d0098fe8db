-- Laws of existence: each eviction ends, whatever the state, where a count of touches may be 0 and
-- each hook may be called.
use Rattle.std.proofs.Common.{◌≡◌, ℕ, zero, suc, ◌+◌, ◌<◌, ◌≤◌, ◌⊎◌, inl, inr, Bool, true, false, List, [], ◌∷◌, ◌++◌, map, refl, arith}
use Rattle.std.proofs.lemmas.Bool.{cases_lt}
use Rattle.quick_cache_model.specs.declared.queue.Queue.{Queue}
use Rattle.quick_cache_model.specs.CacheState.{CacheState, Item, restarted_behind, entered, hot_weight, total_weight}
use Rattle.quick_cache_model.specs.Hooks.{Rules, HookCall, BeforeEvict, evicted, Hooks, RunsHooks}
use Rattle.quick_cache_model.specs.Eviction.{lowered, ghosts_with, promoted, EvictsVictim, AdvancesHot, EvictsToTarget, AdvancesCold}
use Rattle.quick_cache_model.specs.Eviction.{EvictsToCapacity}
use Rattle.quick_cache_laws.specs.Laws.{ring_measure, CanCallHooks}
use Rattle.quick_cache_model.proofs.TouchLaws.{RaisesMarks-same}
use Rattle.quick_cache_model.proofs.HookLaws.{RunsHooks-append}
use Rattle.quick_cache_laws.proofs.Eviction.Measure.{AdvancesHot-measure, AdvancesCold-measure}
use Rattle.quick_cache_laws.proofs.CanBeMade.Victims.{Victim, first_victim, Candidate, first_candidate}

-- calls and a state for which a relation holds, and a request state to which the hooks lead
pub record Leads {K V S : Type 0} (hooks : Hooks K V S)
    (R : List (HookCall K V) → CacheState K V → Type 0) (first : S) : Type 0 where
  pub calls : List (HookCall K V)
  pub new : CacheState K V
  pub last : S
  pub holds : R calls new
  pub runs : RunsHooks hooks calls first last

-- the same, with an answer
pub record Answers {K V S X : Type 0} (hooks : Hooks K V S)
    (R : X → List (HookCall K V) → CacheState K V → Type 0) (first : S) : Type 0 where
  pub answer : X
  pub calls : List (HookCall K V)
  pub new : CacheState K V
  pub last : S
  pub holds : R answer calls new
  pub runs : RunsHooks hooks calls first last

module _ {K V S : Type 0} (rules : Rules K V) (may : rules.may_count 0) (hooks : Hooks K V S)
    (can : CanCallHooks hooks) where
  -- the hook of a queue can be told a pair
  pub told : (queue : Queue) (first : S) (key : K) (value : V) → (last : S)
      × RunsHooks hooks (evicted queue key value ∷ []) first last
  told Queue.Hot first key value = let step = can.evict_hot first key value in
      (step.0, (step.0, step.1, refl))
  told Queue.Cold first key value = let step = can.evict_cold first key value in
      (step.0, (step.0, step.1, refl))

  -- each victim has a fate
  pub EvictsVictim-exists : (queue : Queue) (old : CacheState K V) (item : Item K V) (first : S)
      → Leads hooks (EvictsVictim rules queue old item) first
  EvictsVictim-exists queue old item first = go
      (cases_lt 0 (rules.weight item.key (can.before_evict first item.key item.value).1))
    where
      step : (last : S) × (left : V) × hooks.before_evict first item.key item.value last left
      step = can.before_evict first item.key item.value

      go : (0 < rules.weight item.key step.1) ⊎ (rules.weight item.key step.1 ≤ 0)
          → Leads hooks (EvictsVictim rules queue old item) first
      go (inl heavy) =
          let told_so = told queue step.0 item.key step.1 in
          record {
            calls = BeforeEvict item.key item.value step.1 ∷ evicted queue item.key step.1 ∷ [];
            new = ghosts_with rules queue item old;
            last = told_so.0;
            holds = EvictsVictim.leaves step.1 heavy;
            runs = (step.0, step.2, told_so.1);
          }
      go (inr light) = record {
        calls = BeforeEvict item.key item.value step.1 ∷ [];
        new = entered (record item { value = step.1; weight = 0 }) old;
        last = step.0;
        holds = EvictsVictim.stays step.1 (omega (arith, light));
        runs = (step.0, step.2, refl);
      }

  -- each hot advance ends
  pub AdvancesHot-exists : (old : CacheState K V) (first : S)
      → Answers hooks (AdvancesHot rules old) first
  AdvancesHot-exists old first = go (first_victim rules old.hot)
    where
      go : Victim rules old.hot → Answers hooks (AdvancesHot rules old) first
      go (Victim.is_absent all) = record {
        answer = false;
        calls = [];
        new = record old { hot = map (lowered 1) old.hot };
        last = first;
        holds = AdvancesHot.all_pinned old.hot
            (RaisesMarks-same old.mark_cut rules.may_count may old.hot) all;
        runs = refl;
      }
      go (Victim.is_there before item after split is) =
          let fate = EvictsVictim-exists Queue.Hot
          (record old {
            hot = restarted_behind (map (lowered (item.mark + 1)) before)
                (map (lowered item.mark) after);
          })
          (lowered item.mark item) first
          in
          record {
            answer = true;
            calls = fate.calls;
            new = fate.new;
            last = fate.last;
            holds = AdvancesHot.evicts old.hot before item after fate.calls fate.new
                (RaisesMarks-same old.mark_cut rules.may_count may old.hot) split is fate.holds;
            runs = fate.runs;
          }

  -- one step of eviction down to the target, given the rest of it from each state of a lesser
  -- measure
  to_target_by_answer : (old : CacheState K V) (first : S) → old.hot_target < hot_weight old
      → (answer : Bool) (calls : List (HookCall K V)) (new : CacheState K V) (last : S)
      → AdvancesHot rules old answer calls new → RunsHooks hooks calls first last
      → ((mid : CacheState K V) → ring_measure mid < ring_measure old → (s : S)
      → Leads hooks (EvictsToTarget rules mid) s) → Leads hooks (EvictsToTarget rules old) first
  to_target_by_answer old first above false calls new last advances runs go_on = record {
    calls = calls;
    new = new;
    last = last;
    holds = EvictsToTarget.gives_up old new calls above advances;
    runs = runs;
  }
  to_target_by_answer old first above true calls new last advances runs go_on =
      let rest = go_on new (omega (arith, AdvancesHot-measure rules old new calls advances)) last in
      record {
        calls = calls ++ rest.calls;
        new = rest.new;
        last = rest.last;
        holds = EvictsToTarget.goes_on old new rest.new calls rest.calls above advances rest.holds;
        runs = RunsHooks-append hooks calls rest.calls first last rest.last runs rest.runs;
      }

  -- one step, with the advance that is made
  to_target : (old : CacheState K V) (first : S)
      → ((mid : CacheState K V) → ring_measure mid < ring_measure old → (s : S)
      → Leads hooks (EvictsToTarget rules mid) s) → Leads hooks (EvictsToTarget rules old) first
  to_target old first go_on = go (cases_lt old.hot_target (hot_weight old))
    where
      go : (old.hot_target < hot_weight old) ⊎ (hot_weight old ≤ old.hot_target)
          → Leads hooks (EvictsToTarget rules old) first
      go (inl above) =
          let step = AdvancesHot-exists old first in
          to_target_by_answer old first above step.answer step.calls step.new step.last step.holds
          step.runs go_on
      go (inr fits) = record {
        calls = [];
        new = old;
        last = first;
        holds =
            EvictsToTarget.has_room old fits;
        runs = refl;
      }

  -- eviction down to the target ends, within as many advances as the measure of the rings
  to_target_within : (fuel : ℕ) (old : CacheState K V) (first : S) → ring_measure old ≤ fuel
      → Leads hooks (EvictsToTarget rules old) first
  to_target_within zero old first within = to_target old first
      (λ mid less s. absurd (omega (arith, within, less)))
  to_target_within (suc fuel) old first within =
      to_target old first (λ mid less s. to_target_within fuel mid s (omega (arith, within, less)))

  -- so the hot ring can be brought to its target
  pub EvictsToTarget-exists : (old : CacheState K V) (first : S)
      → Leads hooks (EvictsToTarget rules old) first
  EvictsToTarget-exists old first = to_target_within (ring_measure old) old first (omega arith)

  -- each cold advance ends
  pub AdvancesCold-exists : (old : CacheState K V) (first : S)
      → Answers hooks (AdvancesCold rules old) first
  AdvancesCold-exists old first = go (first_candidate rules old.cold)
    where
      go : Candidate rules old.cold → Answers hooks (AdvancesCold rules old) first
      go (Candidate.is_marked before item after split passed marked) =
          let rest = EvictsToTarget-exists (promoted rules before item after old) first in
          record {
            answer = true;
            calls = rest.calls;
            new = rest.new;
            last = rest.last;
            holds = AdvancesCold.promotes old.cold before item after rest.calls rest.new
                (RaisesMarks-same old.mark_cut rules.may_count may old.cold) split passed marked
                rest.holds;
            runs = rest.runs;
          }
      go (Candidate.is_victim before item after split passed unmarked unpinned) =
          let fate = EvictsVictim-exists Queue.Cold
          (record old { cold = restarted_behind before after })
          item first in
          record {
            answer = true;
            calls = fate.calls;
            new = fate.new;
            last = fate.last;
            holds = AdvancesCold.evicts old.cold before item after fate.calls fate.new
                (RaisesMarks-same old.mark_cut rules.may_count may old.cold)
                split passed unmarked unpinned fate.holds;
            runs = fate.runs;
          }
      go (Candidate.are_passed all) =
          let step = AdvancesHot-exists old first in
          record {
            answer = step.answer;
            calls = step.calls;
            new = step.new;
            last = step.last;
            holds = AdvancesCold.passes_all old.cold step.answer step.calls step.new
                (RaisesMarks-same old.mark_cut rules.may_count may old.cold) all step.holds;
            runs = step.runs;
          }

  -- one step of eviction down to the capacity
  to_capacity_by_answer : (need : ℕ) (old : CacheState K V) (first : S)
      → old.capacity < total_weight old + need
      → (answer : Bool) (calls : List (HookCall K V)) (new : CacheState K V) (last : S)
      → AdvancesCold rules old answer calls new → RunsHooks hooks calls first last
      → ((mid : CacheState K V) → ring_measure mid < ring_measure old → (s : S)
      → Leads hooks (EvictsToCapacity rules need mid) s)
      → Leads hooks (EvictsToCapacity rules need old) first
  to_capacity_by_answer need old first above false calls new last advances runs go_on = record {
    calls = calls;
    new = new;
    last = last;
    holds = EvictsToCapacity.gives_up old new calls above advances;
    runs = runs;
  }
  to_capacity_by_answer need old first above true calls new last advances runs go_on =
      let rest = go_on new (AdvancesCold-measure rules old new calls advances) last in
      record {
        calls = calls ++ rest.calls;
        new = rest.new;
        last = rest.last;
        holds = EvictsToCapacity.goes_on old new rest.new calls rest.calls above advances
            rest.holds;
        runs = RunsHooks-append hooks calls rest.calls first last rest.last runs rest.runs;
      }

  -- one step, with the advance that is made
  to_capacity : (need : ℕ) (old : CacheState K V) (first : S)
      → ((mid : CacheState K V) → ring_measure mid < ring_measure old → (s : S)
      → Leads hooks (EvictsToCapacity rules need mid) s)
      → Leads hooks (EvictsToCapacity rules need old) first
  to_capacity need old first go_on = go (cases_lt old.capacity (total_weight old + need))
    where
      go : (old.capacity < total_weight old + need) ⊎ (total_weight old + need ≤ old.capacity)
          → Leads hooks (EvictsToCapacity rules need old) first
      go (inl above) =
          let step = AdvancesCold-exists old first in
          to_capacity_by_answer need old first above step.answer step.calls step.new step.last
          step.holds step.runs go_on
      go (inr fits) = record {
        calls = [];
        new = old;
        last = first;
        holds =
            EvictsToCapacity.has_room old fits;
        runs = refl;
      }

  -- eviction down to the capacity ends, within as many advances as the measure of the rings
  to_capacity_within : (fuel need : ℕ) (old : CacheState K V) (first : S) → ring_measure old ≤ fuel
      → Leads hooks (EvictsToCapacity rules need old) first
  to_capacity_within zero need old first within =
      to_capacity need old first (λ mid less s. absurd (omega (arith, within, less)))
  to_capacity_within (suc fuel) need old first within =
      to_capacity need old first (λ mid less s. to_capacity_within fuel need mid s
      (omega (arith, within, less)))

  -- eviction down to the capacity ends
  pub EvictsToCapacity-exists : (need : ℕ) (old : CacheState K V) (first : S)
      → Leads hooks (EvictsToCapacity rules need old) first
  EvictsToCapacity-exists need old first = to_capacity_within (ring_measure old) need old first
      (omega arith)

-- hooks that may do nothing: each leaves the request state and the value as they are
pub idle_hooks : {K V : Type 0} → Hooks K V (Unit {0})
idle_hooks = record {
  before_evict = λ first key value last left. left ≡ value;
  evict_hot = λ first key value last. Unit {0};
  evict_cold = λ first key value last. Unit {0};
}

-- each of these can be called
pub can_call_idle_hooks : {K V : Type 0} → CanCallHooks (idle_hooks {K = K} {V = V})
unfolding idle_hooks
can_call_idle_hooks = record {
  before_evict = λ first key value. (tt, value, refl);
  evict_hot = λ first key value. (tt, tt);
  evict_cold = λ first key value. (tt, tt);
}

module _ {K V : Type 0} (rules : Rules K V) (may : rules.may_count 0) where
  -- and room can be made
  pub EvictsToCapacity-ends : (need : ℕ) (old : CacheState K V) → (calls : List (HookCall K V))
      × (new : CacheState K V) × EvictsToCapacity rules need old calls new
  EvictsToCapacity-ends need old =
      let all = EvictsToCapacity-exists rules may idle_hooks can_call_idle_hooks need old tt in
      (all.calls, all.new, all.holds)
