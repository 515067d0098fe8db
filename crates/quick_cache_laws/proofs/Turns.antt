-- What a call of a scan does, from a state that is ready for one.
use Rattle.std.proofs.Common.{◌≡◌, ℕ, ◌+◌, ◌≤◌, Bool, true, false, true≢false, ◌==◌, nat_le, if◌then◌else◌, List, [], ◌∷◌, ◌++◌, map}
use Rattle.std.proofs.Common.{Option, None, refl, sym, ap, subst, ◌∙◌, arith, append-nil}
use Rattle.std.specs.List.{AllByRecursion}
use Rattle.std.proofs.lemmas.Bool.{leb-true}
use Rattle.std.proofs.lemmas.List.{map-append}
use Rattle.std.proofs.lemmas.List.Sums.{sum_by-append, sum_by-cons}
use Rattle.quick_cache_model.specs.declared.queue.Queue.{Queue}
use Rattle.quick_cache_model.specs.Admission.{ChecksAdmission, Admitted, TooHeavy}
use Rattle.quick_cache_model.specs.CacheState.{CacheState, Item, Place, InHot, InCold, InStill, entered, weight_of, hot_weight}
use Rattle.quick_cache_model.specs.CacheState.{place_of_item, ring_place, SameButOrder}
use Rattle.quick_cache_model.specs.Eviction.{EvictsToCapacity}
use Rattle.quick_cache_model.specs.Finding.{IsItemAt, HasNoItem, HasNothing}
use Rattle.quick_cache_model.specs.Hooks.{Rules, HookCall}
use Rattle.quick_cache_model.specs.Lookups.{LooksUp, looked_up}
use Rattle.quick_cache_model.specs.Writes.{Writes, WritesAdmitted, new_item, queue_for, Insert as insertion}
use Rattle.quick_cache_model.proofs.EachElement.{all-right, all-middle, all-push}
use Rattle.quick_cache_model.proofs.EvictionKeeps.{EvictsToCapacity-beside}
use Rattle.quick_cache_model.proofs.Valid.Places.{put}
use Rattle.quick_cache_model.specs.declared.calls.call.Call.{Call}
use Rattle.quick_cache_model.specs.declared.calls.reply.Reply.{Reply}
use Rattle.quick_cache_model.specs.CacheStep.{CacheStep}
use Rattle.quick_cache_laws.specs.Scans.{IsEvictable, IsReadyForScan, IsScanCall, unused, KeepsHot, TakesShortestFront, ScansRings}
use Rattle.quick_cache_laws.proofs.Fronts.{TakesFront, front_leaves}
use Rattle.quick_cache_laws.proofs.ScanParts.{GetStep, InsertStep, get_of, insert_of}

module _ {K V : Type 0} where
  -- the weight of a list and one item more
  weight_of-push : (items : List (Item K V)) (item : Item K V)
      → weight_of (items ++ item ∷ []) ≡ weight_of items + item.weight
  weight_of-push items item = omega (
    arith,
    sum_by-append (λ (x : Item K V). x.weight) items (item ∷ []),
    sum_by-cons (λ (x : Item K V). x.weight) item [],
  )

  -- use changes no weight
  weight_of-unused : (items : List (Item K V)) → weight_of (map unused items) ≡ weight_of items
  weight_of-unused [] = refl
  weight_of-unused (item ∷ items) = omega (
    arith,
    sum_by-cons (λ (x : Item K V). x.weight) item items,
    sum_by-cons (λ (x : Item K V). x.weight) (unused item) (map unused items),
    weight_of-unused items,
  )

  module _ (stands_for : K → Bool) where
    abbrev IsAbsent : Item K V → Type 0
    IsAbsent item = stands_for item.key ≡ false

    -- an item of a list is not absent from it
    not_absent : (items before : List (Item K V)) (item : Item K V) (after : List (Item K V))
        → items ≡ before ++ item ∷ after → stands_for item.key ≡ true
        → AllByRecursion IsAbsent items → ⊥
    not_absent items before item after split passes none = true≢false
        (sym passes ∙ all-middle IsAbsent before item after
        (subst (AllByRecursion IsAbsent) split none))

    -- nor one that stands anywhere
    not_there : (state : CacheState K V) (place : Place) (before : List (Item K V))
        (item : Item K V) (after : List (Item K V))
        → IsItemAt stands_for state place before item after → HasNoItem stands_for state → ⊥
    not_there state InHot before item after there none =
        not_absent state.hot before item after there.split there.passes none.hot
    not_there state InCold before item after there none =
        not_absent state.cold before item after there.split there.passes none.cold
    not_there state InStill before item after there none =
        not_absent state.still before item after there.split there.passes none.still

    -- a look-up that may find an item anywhere but in the cold ring leaves the rings, but for use
    record UsesAlone (old new : CacheState K V) : Type 0 where
      pub hot : map unused new.hot ≡ map unused old.hot
      pub cold : new.cold ≡ old.cold
      pub target : new.hot_target ≡ old.hot_target

    looked : (old : CacheState K V) (found : Option V) (new : CacheState K V)
        → LooksUp stands_for old (λ item. item.value) found new
        → AllByRecursion IsAbsent old.cold → UsesAlone old new
    looked old _ _ (LooksUp.hit InHot before item after there) none = record {
      hot = map-append unused before (looked_up old.mark_cut item ∷ after)
          ∙ sym (map-append unused before (item ∷ after)) ∙ ap (map unused) (sym there.split);
      cold = refl;
      target = refl;
    }
    looked old _ _ (LooksUp.hit InCold before item after there) none =
        absurd (not_absent old.cold before item after there.split there.passes none)
    looked old _ _ (LooksUp.hit InStill before item after there) none =
        record { hot = refl; cold = refl; target = refl }
    looked old _ _ (LooksUp.miss none_there) none =
        record { hot = refl; cold = refl; target = refl }

  -- the rings of a state that an item enters, by its rings
  entered_rings : (item : Item K V) (mid other : CacheState K V) → mid.hot ≡ other.hot
      → mid.cold ≡ other.cold → ((entered item mid).hot ≡ (entered item other).hot)
      × ((entered item mid).cold ≡ (entered item other).cold)
  entered_rings item mid other hot cold = go (place_of_item item)
    where
      go : (place : Place) → ((put place item mid).hot ≡ (put place item other).hot)
          × ((put place item mid).cold ≡ (put place item other).cold)
      go InHot = (ap (λ items. items ++ item ∷ []) hot, cold)
      go InCold = (hot, ap (λ items. items ++ item ∷ []) cold)
      go InStill = (hot, cold)

  -- an item that enters takes none out of the hot ring
  entered_hot : (item : Item K V) (state : CacheState K V) → KeepsHot state (entered item state)
  entered_hot item state = go (place_of_item item)
    where
      go : (place : Place) → KeepsHot state (put place item state)
      go InHot = record {
        others = unused item ∷ [];
        kept = map-append unused state.hot (item ∷ []);
      }
      go InCold = record { others = []; kept = sym (append-nil (map unused state.hot)) }
      go InStill = record { others = []; kept = sym (append-nil (map unused state.hot)) }

module _ {K V : Type 0} (rules : Rules K V) where
  -- another order of what has none is ready too
  ready_in_order : (old new : CacheState K V) → SameButOrder old new → IsReadyForScan rules old
      → IsReadyForScan rules new
  ready_in_order old new order ready = subst (IsReadyForScan rules) (sym order.same)
      (record { within_target = ready.within_target; cold = ready.cold })

  -- so is a state with these rings
  ready_used : (old new : CacheState K V) → map unused new.hot ≡ map unused old.hot
      → new.cold ≡ old.cold → new.hot_target ≡ old.hot_target → IsReadyForScan rules old
      → IsReadyForScan rules new
  ready_used old new hot cold target ready = record {
    within_target = omega (
      arith,
      ready.within_target,
      target,
      weight_of-unused new.hot,
      weight_of-unused old.hot,
      ap (λ items. weight_of items) hot,
    );
    cold = subst (AllByRecursion (IsEvictable rules)) (sym cold) ready.cold;
  }

  -- a pair that is not pinned, put into the ring that has room for it
  ready_entered : (key : K) (value : V) (old mid : CacheState K V) → IsReadyForScan rules mid
      → mid.hot ≡ old.hot → mid.hot_target ≡ old.hot_target → rules.pinned key value ≡ false
      → IsReadyForScan rules
      (entered (new_item rules key value (queue_for rules old key value Queue.Cold) 0) mid)
  ready_entered key value old mid ready hot target unpinned =
      go (rules.weight key value == 0)
      (nat_le (hot_weight old + rules.weight key value) old.hot_target) refl
    where
      go : (light fits : Bool)
          → nat_le (hot_weight old + rules.weight key value) old.hot_target ≡ fits
          → IsReadyForScan rules
          (put (if light then InStill else ring_place (if fits then Queue.Hot else Queue.Cold))
          (new_item rules key value (if fits then Queue.Hot else Queue.Cold) 0) mid)
      go true fits is = record { within_target = ready.within_target; cold = ready.cold }
      go false true is = record {
        within_target = omega (
          arith,
          leb-true (hot_weight old + rules.weight key value) old.hot_target is,
          weight_of-push mid.hot (new_item rules key value Queue.Hot 0),
          ap (λ items. weight_of items) hot,
          target,
        );
        cold = ready.cold;
      }
      go false false is = record {
        within_target = ready.within_target;
        cold = all-push (IsEvictable rules) mid.cold (new_item rules key value Queue.Cold 0)
            ready.cold
            (refl, unpinned);
      }

  module _ (equal_to : K → Bool) (key : K) (value : V) (old : CacheState K V) where
    -- a pair that was inserted where nothing was found
    pub record IsInserted (new : CacheState K V) : Type 0 where
      pub mid : CacheState K V
      pub calls : List (HookCall K V)
      pub evicts : EvictsToCapacity rules (rules.weight key value) old calls mid
      pub same : new ≡ entered
          (new_item rules key value (queue_for rules old key value Queue.Cold) 0) mid

    inserted : (calls : List (HookCall K V)) (new : CacheState K V)
        → WritesAdmitted rules equal_to key insertion old value calls None new
        → HasNothing equal_to (rules.hash key) old → IsInserted new
    inserted _ _ (WritesAdmitted.inserts_new mid calls inserts nothing evicts) none =
        record { mid = mid; calls = calls; evicts = evicts; same = refl }
    inserted _ _ (WritesAdmitted.overwrites place before item touched after calls new there takes
        evicts) none = absurd (not_there equal_to old place before item after there none.keys.items)
    inserted _ _ (WritesAdmitted.inserts_over_ghost before after calls new inserts there evicts)
        none = absurd (all-middle (λ ghost. ghost ≡ rules.hash key → ⊥) before (rules.hash key)
        after
        (subst (AllByRecursion (λ ghost. ghost ≡ rules.hash key → ⊥)) there.split none.ghosts) refl)
    inserted _ _ (WritesAdmitted.inserts_over_loading before entry after calls new inserts there
        evicts) none =
        absurd (true≢false (sym there.passes ∙ all-middle (λ other. equal_to other.key ≡ false)
        before entry after
        (subst (AllByRecursion (λ other. equal_to other.key ≡ false)) there.split
        none.keys.loading)))

    -- so is each that weighs at most the target
    pub written : (calls : List (HookCall K V)) (new : CacheState K V)
        → Writes rules equal_to key insertion old value calls None new
        → HasNothing equal_to (rules.hash key) old → rules.weight key value ≤ old.hot_target
        → IsInserted new
    written _ _ (Writes.admitted first rest left _ new checks writes) none light =
        go first left checks rest writes
      where
        go : (first : List (HookCall K V)) (left : V)
            → ChecksAdmission rules old.hot_target key value first (Admitted left)
            → (rest : List (HookCall K V))
            → WritesAdmitted rules equal_to key insertion old left rest None new → IsInserted new
        go _ _ (ChecksAdmission.is_light ok) rest writes = inserted rest new writes none
        go _ _ (ChecksAdmission.is_pinned heavy is) rest writes =
            absurd (omega (arith, light, heavy))
        go _ _ (ChecksAdmission.was_lightened left heavy free ok) rest writes =
            absurd (omega (arith, light, heavy))
    written _ _ (Writes.too_heavy first rest left _ new checks rejects) none light = go first checks
      where
        go : (first : List (HookCall K V))
            → ChecksAdmission rules old.hot_target key value first (TooHeavy left) → IsInserted new
        go _ (ChecksAdmission.is_too_heavy left heavy free more) =
            absurd (omega (arith, light, heavy))

    -- the front that left for it
    pub front_of : (new : CacheState K V) → ((n : ℕ) → rules.may_count n → n ≡ 0)
        → (is : IsInserted new) → IsReadyForScan rules old
        → old.hot_target + rules.weight key value ≤ old.capacity
        → TakesFront rules (rules.weight key value) old is.mid
    front_of new no_touch is ready fits =
        front_leaves rules no_touch (rules.weight key value) old is.calls is.mid is.evicts
        ready.cold
        (omega (arith, fits, ready.within_target))

    -- it takes the shortest front out of the cold ring, and leaves a state that is ready
    inserted_behind : (new : CacheState K V) → ((n : ℕ) → rules.may_count n → n ≡ 0)
        → IsInserted new → IsReadyForScan rules old → rules.pinned key value ≡ false
        → old.hot_target + rules.weight key value ≤ old.capacity
        → TakesShortestFront rules key value old new × IsReadyForScan rules new
    inserted_behind new no_touch is ready unpinned fits =
        let item = new_item rules key value (queue_for rules old key value Queue.Cold) 0 in
        let takes = front_of new no_touch is ready fits in
        let beside = EvictsToCapacity-beside rules (rules.weight key value) old is.mid is.calls
        is.evicts in
        let mid_ready : IsReadyForScan rules is.mid = record {
          within_target = omega (
            arith,
            ready.within_target,
            ap (λ items. weight_of items) takes.hot,
            beside.hot_target,
          );
          cold = subst (AllByRecursion (IsEvictable rules)) (sym takes.cold)
              (all-right (IsEvictable rules) takes.front takes.rest
              (subst (AllByRecursion (IsEvictable rules)) takes.is_shortest.parts ready.cold));
        } in
        let rings = entered_rings item is.mid (record old { cold = takes.rest }) takes.hot
        takes.cold in (
          record {
            front = takes.front;
            rest = takes.rest;
            is_shortest = takes.is_shortest;
            hot = ap (λ (s : CacheState K V). s.hot) is.same ∙ rings.0;
            cold = ap (λ (s : CacheState K V). s.cold) is.same ∙ rings.1;
          },
          subst (IsReadyForScan rules) (sym is.same)
              (ready_entered key value old is.mid mid_ready takes.hot beside.hot_target unpinned),
        )

  -- what takes the shortest front takes none out of the hot ring
  front_keeps_hot : (key : K) (value : V) (old new : CacheState K V)
      → TakesShortestFront rules key value old new → KeepsHot old new
  front_keeps_hot key value old new takes =
      let kept = entered_hot (new_item rules key value (queue_for rules old key value Queue.Cold) 0)
      (record old { cold = takes.rest }) in
      record { others = kept.others; kept = ap (map unused) takes.hot ∙ kept.kept }

module _ {K V F M : Type 0} (rules : Rules K V) (equal : K → K → Bool)
    (shows_key : K → K → Type 0) (shows : V → V → Type 0) (answers : F → K → V → Bool)
    (none : (n : ℕ) → rules.may_count n → n ≡ 0) where
  -- the step of a call, with its reply
  abbrev Step : CacheState K V → Call K V F → Reply K V M → List (HookCall K V) → CacheState K V
      → Type 0
  Step = CacheStep rules equal shows_key shows answers

  -- a look-up
  get_turn : (key : K) (old : CacheState K V) (reply : Reply K V M) (calls : List (HookCall K V))
      (new : CacheState K V) → Step old (Call.Get key) reply calls new
      → AllByRecursion (λ item. equal key item.key ≡ false) old.cold → IsReadyForScan rules old
      → ScansRings rules {F = F} old (Call.Get key) reply new × IsReadyForScan rules new
  get_turn key old reply calls new step absent ready =
      go reply new (get_of rules equal shows_key shows answers key old reply calls new step)
    where
      go : (reply : Reply K V M) (new : CacheState K V) → GetStep equal key old reply new
          → ScansRings rules {F = F} old (Call.Get key) reply new × IsReadyForScan rules new
      go _ _ (GetStep.looked found shown new looks) =
          let used = looked (equal key) old found looks.ordered looks.holds absent in (
            ScansRings.gets key _ new
                (ap (λ (s : CacheState K V). map unused s.hot) looks.same.same ∙ used.hot)
                (ap (λ (s : CacheState K V). s.cold) looks.same.same ∙ used.cold),
            ready_in_order rules looks.ordered new looks.same
                (ready_used rules old looks.ordered used.hot used.cold used.target ready),
          )
      go _ _ (GetStep.is_refused refusal) = (ScansRings.gets key _ old refl refl, ready)

  -- an insert
  insert_turn : (key : K) (value : V) (old : CacheState K V) (reply : Reply K V M)
      (calls : List (HookCall K V)) (new : CacheState K V)
      → Step old (Call.Insert key value) reply calls new
      → HasNothing (equal key) (rules.hash key) old → rules.pinned key value ≡ false
      → rules.weight key value ≤ old.hot_target
      → old.hot_target + rules.weight key value ≤ old.capacity → IsReadyForScan rules old
      → ScansRings rules {F = F} old (Call.Insert key value) reply new × IsReadyForScan rules new
  insert_turn key value old reply calls new step nothing unpinned light fits ready =
      go reply new
      (insert_of rules equal shows_key shows answers key value old reply calls new step)
    where
      go : (reply : Reply K V M) (new : CacheState K V)
          → InsertStep rules equal key value old reply new
          → ScansRings rules {F = F} old (Call.Insert key value) reply new
          × IsReadyForScan rules new
      go _ _ (InsertStep.wrote calls new writes) =
          let is = written rules (equal key) key value old calls writes.ordered writes.holds nothing
          light in
          let behind = inserted_behind rules (equal key) key value old writes.ordered none is ready
          unpinned fits in (
            ScansRings.inserts key value new (record {
              front = behind.0.front;
              rest = behind.0.rest;
              is_shortest = behind.0.is_shortest;
              hot = ap (λ (s : CacheState K V). s.hot) writes.same.same ∙ behind.0.hot;
              cold = ap (λ (s : CacheState K V). s.cold) writes.same.same ∙ behind.0.cold;
            }),
            ready_in_order rules writes.ordered new writes.same behind.1,
          )
      go _ _ (InsertStep.is_refused refusal) = (ScansRings.refuses key value refusal, ready)

  -- a call of a scan
  pub turn : (old : CacheState K V) (call : Call K V F) (reply : Reply K V M)
      (calls : List (HookCall K V)) (new : CacheState K V) → Step old call reply calls new
      → IsScanCall rules equal old call → IsReadyForScan rules old
      → ScansRings rules old call reply new × IsReadyForScan rules new
  turn old _ reply calls new step (IsScanCall.gets key absent) ready =
      get_turn key old reply calls new step absent ready
  turn old _ reply calls new step (IsScanCall.inserts key value nothing unpinned light fits) ready =
      insert_turn key value old reply calls new step nothing unpinned light fits ready

  -- it takes no item out of the hot ring
  pub turn_keeps_hot : (old : CacheState K V) (call : Call K V F) (reply : Reply K V M)
      (new : CacheState K V) → ScansRings rules old call reply new → KeepsHot old new
  turn_keeps_hot old _ _ _ (ScansRings.gets key reply new hot cold) =
      record { others = []; kept = hot ∙ sym (append-nil (map unused old.hot)) }
  turn_keeps_hot old _ _ _ (ScansRings.inserts key value new takes) =
      front_keeps_hot rules key value old new takes
  turn_keeps_hot old _ _ _ (ScansRings.refuses key value refusal) =
      record { others = []; kept = sym (append-nil (map unused old.hot)) }
