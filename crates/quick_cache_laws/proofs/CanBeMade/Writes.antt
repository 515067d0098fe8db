-- Laws of existence: each write, each filling and each new capacity can be had in every state,
-- where a count of touches may be 0 and each hook may be called.
use Rattle.std.proofs.Common.{◌≡◌, ℕ, ◌<◌, ◌≤◌, ◌==◌, ◌⊎◌, inl, inr, Bool, false, if◌then◌else◌, List, [], ◌∷◌, ◌++◌, Option, Some, None}
use Rattle.std.proofs.Common.{refl, arith}
use Rattle.std.proofs.lemmas.Bool.{cases_lt, eqb-true, eqb-false}
use Rattle.quick_cache_model.specs.declared.queue.Queue.{Queue}
use Rattle.quick_cache_model.specs.CacheState.{CacheState, Item, LoadingEntry, Place, with_items, entered, rewritten}
use Rattle.quick_cache_model.specs.Hooks.{Rules, HookCall, EvictCold, evicted, Hooks, RunsHooks}
use Rattle.quick_cache_model.specs.Finding.{Found, FoundItem, FoundLoading, FoundGhost, FoundNothing, IsItemAt, Finds}
use Rattle.quick_cache_model.specs.Eviction.{newest}
use Rattle.quick_cache_model.specs.Admission.{Admission, Admitted, TooHeavy, ChecksAdmission}
use Rattle.quick_cache_model.specs.Writes.{Strategy, Insert, Replace, SoftReplace, IsReplace, mark_after, new_item, queue_for}
use Rattle.quick_cache_model.specs.Writes.{WritesAdmitted, TakesOutItem, RejectsTooHeavy, Writes}
use Rattle.quick_cache_model.specs.Touches.{first_mark}
use Rattle.quick_cache_model.specs.Placeholders.{IsLoadingTicket, MakesRoomFor, FillsPlaceholder}
use Rattle.quick_cache_model.specs.Capacity.{resized, SetsCapacity}
use Rattle.quick_cache_laws.specs.Laws.{CanCallHooks}
use Rattle.quick_cache_model.proofs.EachElement.{all-weaker}
use Rattle.quick_cache_laws.proofs.CanBeMade.Finding.{Searched, is_there, is_absent, search_list, Finds-some}
use Rattle.quick_cache_model.proofs.HookLaws.{RunsHooks-append}
use Rattle.quick_cache_laws.proofs.CanBeMade.Evictions.{Leads, Answers, told, EvictsToCapacity-exists, idle_hooks, can_call_idle_hooks}
use Rattle.quick_cache_laws.proofs.CanBeMade.Lookups.{ItemFound, item_there, no_item, find_item}
use Rattle.quick_cache_laws.proofs.CanBeMade.Checks.{ChecksAdmission-exists}

module _ {K V S : Type 0} (rules : Rules K V) (may : rules.may_count 0) (hooks : Hooks K V S)
    (can : CanCallHooks hooks) where
  -- the capacity can be set
  pub SetsCapacity-exists : (capacity : ℕ) (old : CacheState K V) (first : S)
      → Leads hooks (SetsCapacity rules capacity old) first
  SetsCapacity-exists capacity old first =
      let all = EvictsToCapacity-exists rules may hooks can 0 (resized rules capacity old) first in
      record {
        calls = all.calls;
        new = record all.new { ghosts = newest all.new.ghost_limit all.new.ghosts };
        last = all.last;
        holds = SetsCapacity.sets all.new all.calls all.holds;
        runs = all.runs;
      }

  module _ (equal_to : K → Bool) (key : K) where
    -- what a write of the pair may come to
    abbrev Written : Strategy → CacheState K V → V → S → Type 0
    Written strategy old value first = Answers hooks
        (λ answer calls new. WritesAdmitted rules equal_to key strategy old value calls answer new)
        first

    -- an item under the key is written over
    overwritten : (strategy : Strategy) (old : CacheState K V) (value : V) (first : S)
        (place : Place) (before : List (Item K V)) (item : Item K V) (after : List (Item K V))
        → IsItemAt equal_to old place before item after → Written strategy old value first
    overwritten strategy old value first place before item after there =
        let new = new_item rules key value item.queue
        (mark_after old.mark_cut strategy item.mark) in
        let gone = told rules may hooks can item.queue first item.key item.value in
        let room = EvictsToCapacity-exists rules may hooks can 0
        (rewritten place before new after old) gone.0 in
        record {
          answer = None;
          calls = evicted item.queue item.key item.value ∷ room.calls;
          new = room.new;
          last = room.last;
          holds = WritesAdmitted.overwrites place before item item after room.calls room.new there
              (0, may, refl) room.holds;
          runs = RunsHooks-append hooks (evicted item.queue item.key item.value ∷ [])
              room.calls first gone.0 room.last gone.1 room.runs;
        }

    -- an insert writes over whatever is found
    inserted : (old : CacheState K V) (value : V) (first : S) (found : Found K V)
        → Finds equal_to (rules.hash key) old found → Written Insert old value first
    inserted old value first (FoundItem place before item after) there =
        overwritten Insert old value first place before item after there
    inserted old value first (FoundLoading before entry after) there =
        let room = EvictsToCapacity-exists rules may hooks can 0
        (entered (new_item rules key value entry.queue (first_mark old.mark_cut))
        (record old { loading = before ++ after })) first in
        record {
          answer = None;
          calls = room.calls;
          new = room.new;
          last = room.last;
          holds = WritesAdmitted.inserts_over_loading before entry after room.calls room.new refl
              there room.holds;
          runs = room.runs;
        }
    inserted old value first (FoundGhost before after) there =
        let room = EvictsToCapacity-exists rules may hooks can 0
        (entered (new_item rules key value Queue.Hot 0) (record old { ghosts = before ++ after }))
        first in
        record {
          answer = None;
          calls = room.calls;
          new = room.new;
          last = room.last;
          holds = WritesAdmitted.inserts_over_ghost before after room.calls room.new refl there
              room.holds;
          runs = room.runs;
        }
    inserted old value first FoundNothing nothing =
        let room = EvictsToCapacity-exists rules may hooks can (rules.weight key value) old first in
        record {
          answer = None;
          calls = room.calls;
          new = entered (new_item rules key value (queue_for rules old key value Queue.Cold) 0)
              room.new;
          last = room.last;
          holds = WritesAdmitted.inserts_new room.new room.calls refl nothing room.holds;
          runs = room.runs;
        }

    -- a replace writes over an item, or gives its pair back
    replaced : (strategy : Strategy) → IsReplace strategy
        → (old : CacheState K V) (value : V) (first : S) → ItemFound equal_to old
        → Written strategy old value first
    replaced strategy replaces old value first (item_there place before item after there) =
        overwritten strategy old value first place before item after there
    replaced strategy replaces old value first (no_item none) =
        record {
          answer = Some (key, value);
          calls = [];
          new = old;
          last = first;
          holds =
              WritesAdmitted.gives_back replaces none;
          runs = refl;
        }

    -- a pair that was admitted can be written
    pub WritesAdmitted-exists : (strategy : Strategy) (old : CacheState K V) (value : V) (first : S)
        → Written strategy old value first
    WritesAdmitted-exists Insert old value first = let some =
        Finds-some equal_to (rules.hash key) old in inserted old value first some.0 some.1
    WritesAdmitted-exists Replace old value first =
        replaced Replace tt old value first (find_item equal_to old)
    WritesAdmitted-exists SoftReplace old value first =
        replaced SoftReplace tt old value first (find_item equal_to old)

    -- the item under a key can be taken out
    pub TakesOutItem-exists : (old : CacheState K V) (first : S)
        → Leads hooks (TakesOutItem equal_to old) first
    TakesOutItem-exists old first = go (find_item equal_to old)
      where
        go : ItemFound equal_to old → Leads hooks (TakesOutItem equal_to old) first
        go (item_there place before item after there) =
            let gone = told rules may hooks can item.queue first item.key item.value in
            record {
              calls = evicted item.queue item.key item.value ∷ [];
              new = with_items place (before ++ after) old;
              last = gone.0;
              holds = TakesOutItem.was_there place before item after there;
              runs = gone.1;
            }
        go (no_item none) = record {
          calls = [];
          new = old;
          last = first;
          holds =
              TakesOutItem.was_absent none;
          runs = refl;
        }

    -- a pair that is too heavy can be rejected
    pub RejectsTooHeavy-exists : (strategy : Strategy) (old : CacheState K V) (value : V)
        (first : S)
        → Answers hooks (λ answer calls new. RejectsTooHeavy equal_to key strategy old value
        calls answer new) first
    RejectsTooHeavy-exists Insert old value first =
        let out = TakesOutItem-exists old first in
        let gone = can.evict_cold out.last key value in
        record {
          answer = None;
          calls = out.calls ++ EvictCold key value ∷ [];
          new = out.new;
          last = gone.0;
          holds = RejectsTooHeavy.reports out.calls out.new refl out.holds;
          runs = RunsHooks-append hooks out.calls (EvictCold key value ∷ [])
              first out.last gone.0 out.runs (gone.0, gone.1, refl);
        }
    RejectsTooHeavy-exists Replace old value first =
        let out = TakesOutItem-exists old first in
        record {
          answer = Some (key, value);
          calls = out.calls;
          new = out.new;
          last = out.last;
          holds = RejectsTooHeavy.gives_back out.calls out.new tt out.holds;
          runs = out.runs;
        }
    RejectsTooHeavy-exists SoftReplace old value first =
        let out = TakesOutItem-exists old first in
        record {
          answer = Some (key, value);
          calls = out.calls;
          new = out.new;
          last = out.last;
          holds = RejectsTooHeavy.gives_back out.calls out.new tt out.holds;
          runs = out.runs;
        }

    -- each write can be made
    pub Writes-exists : (strategy : Strategy) (old : CacheState K V) (value : V) (first : S)
        → Answers hooks (λ answer calls new. Writes rules equal_to key strategy old value calls
        answer new) first
    Writes-exists strategy old value first =
        let check = ChecksAdmission-exists rules may hooks can old.hot_target key value first in go
        check.answer
        check.calls check.last check.holds check.runs
      where
        go : (admission : Admission V) (calls : List (HookCall K V)) (last : S)
            → ChecksAdmission rules old.hot_target key value calls admission
            → RunsHooks hooks calls first last
            → Answers hooks (λ answer calls new. Writes rules equal_to key strategy old value calls
            answer new) first
        go (Admitted left) calls last checks runs =
            let rest = WritesAdmitted-exists strategy old left last in
            record {
              answer = rest.answer;
              calls = calls ++ rest.calls;
              new = rest.new;
              last = rest.last;
              holds = Writes.admitted calls rest.calls left rest.answer rest.new checks rest.holds;
              runs = RunsHooks-append hooks calls rest.calls first last rest.last runs rest.runs;
            }
        go (TooHeavy left) calls last checks runs =
            let rest = RejectsTooHeavy-exists strategy old left last in
            record {
              answer = rest.answer;
              calls = calls ++ rest.calls;
              new = rest.new;
              last = rest.last;
              holds = Writes.too_heavy calls rest.calls left rest.answer rest.new checks rest.holds;
              runs = RunsHooks-append hooks calls rest.calls first last rest.last runs rest.runs;
            }

  -- room can be made for a value that fills a placeholder
  pub MakesRoomFor-exists : (ticket : ℕ) (old : CacheState K V) (weight : ℕ) (mid : CacheState K V)
      (first : S) → Leads hooks (MakesRoomFor ticket old rules weight mid) first
  MakesRoomFor-exists ticket old weight mid first = go (cases_lt 0 weight)
    where
      go : (0 < weight) ⊎ (weight ≤ 0) → Leads hooks (MakesRoomFor ticket old rules weight mid)
          first
      go (inl heavy) =
          let room = EvictsToCapacity-exists rules may hooks can 0 mid first in
          record {
            calls = room.calls;
            new = room.new;
            last = room.last;
            holds =
                MakesRoomFor.takes_some room.calls room.new heavy room.holds;
            runs = room.runs;
          }
      go (inr light) = record {
        calls = [];
        new = mid;
        last = first;
        holds =
            MakesRoomFor.takes_none (omega (arith, light));
        runs = refl;
      }

  -- each placeholder can be filled
  pub FillsPlaceholder-exists : (ticket : ℕ) (marked : Bool) (old : CacheState K V) (value : V)
      (first : S)
      → Answers hooks (λ answer calls new. FillsPlaceholder ticket old rules marked value calls
      answer new) first
  FillsPlaceholder-exists ticket marked old value first =
      go (search_list (λ entry. entry.ticket == ticket) old.loading)
    where
      fill : (before : List (LoadingEntry K)) (entry : LoadingEntry K)
          (after : List (LoadingEntry K)) → IsLoadingTicket ticket old before entry after
          → (admission : Admission V) (calls : List (HookCall K V)) (last : S)
          → ChecksAdmission rules old.hot_target entry.key value calls admission
          → RunsHooks hooks calls first last
          → Answers hooks (λ answer calls new. FillsPlaceholder ticket old rules marked value calls
          answer new) first
      fill before entry after there (Admitted left) calls last checks runs =
          let item = new_item rules entry.key left (queue_for rules old entry.key left entry.queue)
          (if marked then first_mark old.mark_cut else 0) in
          let room = MakesRoomFor-exists ticket old (rules.weight entry.key left)
          (entered item (record old { loading = before ++ after })) last in
          record {
            answer = None;
            calls = calls ++ room.calls;
            new = room.new;
            last = room.last;
            holds = FillsPlaceholder.fills before entry after left calls room.calls room.new there
                checks room.holds;
            runs = RunsHooks-append hooks calls room.calls first last room.last runs room.runs;
          }
      fill before entry after there (TooHeavy left) calls last checks runs =
          let gone = can.evict_cold last entry.key left in
          record {
            answer = None;
            calls = calls ++ EvictCold entry.key left ∷ [];
            new = record old { loading = before ++ after };
            last = gone.0;
            holds = FillsPlaceholder.too_heavy before entry after left calls there checks;
            runs = RunsHooks-append hooks calls (EvictCold entry.key left ∷ [])
                first last gone.0 runs (gone.0, gone.1, refl);
          }

      go : Searched (λ entry. entry.ticket == ticket) old.loading
          → Answers hooks (λ answer calls new. FillsPlaceholder ticket old rules marked value calls
          answer new) first
      go (is_there before entry after split passes) =
          let check = ChecksAdmission-exists rules may hooks can old.hot_target entry.key value
          first in
          fill before entry after (record {
            split = split;
            is_of_ticket =
                eqb-true entry.ticket ticket passes;
          })
          check.answer check.calls check.last check.holds check.runs
      go (is_absent others) = record {
        answer = Some value;
        calls = [];
        new = old;
        last = first;
        holds = FillsPlaceholder.was_gone (all-weaker
            (λ (entry : LoadingEntry K). (entry.ticket == ticket) ≡ false)
            (λ entry. entry.ticket ≡ ticket → ⊥)
            (λ entry fails. eqb-false entry.ticket ticket fails) old.loading others);
        runs = refl;
      }

-- Whatever the hooks may be, each of these calls can be made.
module _ {K V : Type 0} (rules : Rules K V) (may : rules.may_count 0) where
  -- a write can be made
  pub Writes-ends : (equal_to : K → Bool) (key : K) (strategy : Strategy) (old : CacheState K V)
      (value : V)
      → (calls : List (HookCall K V)) × (answer : Option (K × V)) × (new : CacheState K V)
      × Writes rules equal_to key strategy old value calls answer new
  Writes-ends equal_to key strategy old value =
      let all = Writes-exists rules may idle_hooks can_call_idle_hooks equal_to key strategy old
      value tt in (all.calls, all.answer, all.new, all.holds)

  -- a placeholder can be filled
  pub FillsPlaceholder-ends : (ticket : ℕ) (marked : Bool) (old : CacheState K V) (value : V)
      → (calls : List (HookCall K V)) × (answer : Option V) × (new : CacheState K V)
      × FillsPlaceholder ticket old rules marked value calls answer new
  FillsPlaceholder-ends ticket marked old value =
      let all = FillsPlaceholder-exists rules may idle_hooks can_call_idle_hooks ticket marked old
      value tt in (all.calls, all.answer, all.new, all.holds)

  -- and the capacity be set
  pub SetsCapacity-ends : (capacity : ℕ) (old : CacheState K V) → (calls : List (HookCall K V))
      × (new : CacheState K V) × SetsCapacity rules capacity old calls new
  SetsCapacity-ends capacity old = let all = SetsCapacity-exists rules may idle_hooks
      can_call_idle_hooks capacity old tt in (all.calls, all.new, all.holds)
