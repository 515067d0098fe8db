-- No call changes the greatest mark.
use Rattle.std.proofs.Common.{◌≡◌, ℕ, Bool, true, false, List, ◌∷◌, ◌++◌, Option, refl, ap, ◌∙◌, if◌then◌else◌, ◌==◌}
use Rattle.quick_cache_model.specs.declared.queue.Queue.{Queue}
use Rattle.quick_cache_model.specs.CacheState.{CacheState, Item, Place, InHot, InCold, InStill, with_items, place_of_item, entered}
use Rattle.quick_cache_model.specs.CacheState.{rewritten, restarted_behind}
use Rattle.quick_cache_model.specs.Hooks.{Rules, HookCall}
use Rattle.quick_cache_model.specs.Eviction.{EvictsToCapacity}
use Rattle.quick_cache_model.specs.Writes.{Strategy, WritesAdmitted, TakesOutItem, RejectsTooHeavy, Writes, new_item, queue_for}
use Rattle.quick_cache_model.specs.Touches.{first_mark}
use Rattle.quick_cache_model.specs.Placeholders.{MakesPlaceholder, MeetsPlaceholder, MakesRoomFor, FillsPlaceholder, GivesUpPlaceholder}
use Rattle.quick_cache_model.specs.Lookups.{LooksUp, looked_up}
use Rattle.quick_cache_model.specs.Removal.{Removes, RemovesIf, Retains, Drains, reweighed}
use Rattle.quick_cache_model.specs.Entries.{EntryChoice, EntryOutcome, ActsOnEntry}
use Rattle.quick_cache_model.specs.Capacity.{SetsCapacity, resized}
use Rattle.quick_cache_laws.specs.Steps.{Step, Steps}
use Rattle.quick_cache_model.proofs.EvictionKeeps.{EvictsToCapacity-beside}

-- the greatest mark is what it was
abbrev pub KeepsTheCut : {K V : Type 0} → (old new : CacheState K V) → Type 0
KeepsTheCut old new = new.mark_cut ≡ old.mark_cut

module _ {K V : Type 0} where
  -- other items at a place
  with_items-cut : (place : Place) (items : List (Item K V)) (state : CacheState K V)
      → KeepsTheCut state (with_items place items state)
  with_items-cut InHot items state = refl
  with_items-cut InCold items state = refl
  with_items-cut InStill items state = refl

  -- an item that enters
  entered-cut : (item : Item K V) (state : CacheState K V)
      → KeepsTheCut state (entered item state)
  entered-cut item state = with_items-cut (place_of_item item) _ state

  -- an item that is written over another
  rewritten-cut : (place : Place) (before : List (Item K V)) (item : Item K V)
      (after : List (Item K V)) (state : CacheState K V)
      → KeepsTheCut state (rewritten place before item after state)
  rewritten-cut InStill before item after state = go (item.weight == 0)
    where
      go : (b : Bool) → KeepsTheCut state (if b then with_items InStill (before ++ item ∷ after)
          state else entered item (with_items InStill (before ++ after) state))
      go true = refl
      go false = entered-cut item (record state { still = before ++ after })
  rewritten-cut InHot before item after state = go (item.weight == 0)
    where
      go : (b : Bool) → KeepsTheCut state (if b then entered item
          (with_items InHot (restarted_behind before after) state) else with_items InHot
          (before ++ item ∷ after) state)
      go true = entered-cut item (record state { hot = after ++ before })
      go false = refl
  rewritten-cut InCold before item after state = go (item.weight == 0)
    where
      go : (b : Bool) → KeepsTheCut state (if b then entered item
          (with_items InCold (restarted_behind before after) state) else with_items InCold
          (before ++ item ∷ after) state)
      go true = entered-cut item (record state { cold = after ++ before })
      go false = refl

  -- a placeholder that is made, met or given up
  pub MakesPlaceholder-cut : (stands_for : K → Bool) (hash : ℕ) (key : K)
      (old new : CacheState K V) → MakesPlaceholder stands_for old hash key new
      → KeepsTheCut old new
  MakesPlaceholder-cut stands_for hash key old _ (MakesPlaceholder.on_nothing stands nothing) = refl
  MakesPlaceholder-cut stands_for hash key old _
      (MakesPlaceholder.on_ghost before after stands there) = refl

  pub MeetsPlaceholder-cut : (stands_for : K → Bool) (ticket : ℕ) (old new : CacheState K V)
      → MeetsPlaceholder stands_for old ticket new → KeepsTheCut old new
  MeetsPlaceholder-cut stands_for _ old _ (MeetsPlaceholder.is_there before entry after there) =
      refl

  pub GivesUpPlaceholder-cut : (ticket : ℕ) (old new : CacheState K V)
      → GivesUpPlaceholder ticket old new → KeepsTheCut old new
  GivesUpPlaceholder-cut ticket old _ (GivesUpPlaceholder.was_there before entry after there) = refl
  GivesUpPlaceholder-cut ticket old _ (GivesUpPlaceholder.was_gone none) = refl

  -- a look-up
  pub LooksUp-cut : {X : Type 0} (of : Item K V → X) (stands_for : K → Bool)
      (old new : CacheState K V) (shown : Option X)
      → LooksUp stands_for old of shown new → KeepsTheCut old new
  LooksUp-cut of stands_for old _ _ (LooksUp.hit InHot before item after there) = refl
  LooksUp-cut of stands_for old _ _ (LooksUp.hit InCold before item after there) = refl
  LooksUp-cut of stands_for old _ _ (LooksUp.hit InStill before item after there) = refl
  LooksUp-cut of stands_for old _ _ (LooksUp.miss none) = refl

  -- a removal
  pub Removes-cut : (stands_for : K → Bool) (hash : ℕ) (old new : CacheState K V)
      (answer : Option (K × V)) → Removes stands_for old hash answer new → KeepsTheCut old new
  Removes-cut stands_for hash old _ _ (Removes.of_item place before item after there) =
      with_items-cut place (before ++ after) old
  Removes-cut stands_for hash old _ _ (Removes.of_loading before entry after there) = refl
  Removes-cut stands_for hash old _ _ (Removes.of_ghost before after there) = refl
  Removes-cut stands_for hash old _ _ (Removes.of_nothing nothing) = refl

  -- a removal by a test
  pub RemovesIf-cut : (stands_for : K → Bool) (passes : V → Bool) (old new : CacheState K V)
      (answer : Option (K × V)) → RemovesIf stands_for old passes answer new
      → KeepsTheCut old new
  RemovesIf-cut stands_for passes old _ _ (RemovesIf.goes place before item after there is) =
      with_items-cut place (before ++ after) old
  RemovesIf-cut stands_for passes old _ _ (RemovesIf.stays place before item after there is) = refl
  RemovesIf-cut stands_for passes old _ _ (RemovesIf.absent none) = refl

  -- a retain, and a drain
  pub Retains-cut : (keeps : K → V → Bool) (old new : CacheState K V) → Retains keeps old new
      → KeepsTheCut old new
  Retains-cut keeps old new is = ap (λ (state : CacheState K V). state.mark_cut) is

  pub Drains-cut : (old new : CacheState K V) (pairs : List (K × V)) → Drains old pairs new
      → KeepsTheCut old new
  Drains-cut old new pairs drains = ap (λ (state : CacheState K V). state.mark_cut) drains.1

module _ {K V : Type 0} (rules : Rules K V) where
  -- room that is made
  evicted-cut : (need : ℕ) (old new : CacheState K V) (calls : List (HookCall K V))
      → EvictsToCapacity rules need old calls new → KeepsTheCut old new
  evicted-cut need old new calls evicts =
      (EvictsToCapacity-beside rules need old new calls evicts).mark_cut

  -- a write
  module _ (equal_to : K → Bool) (key : K) where
    WritesAdmitted-cut : (strategy : Strategy) (old : CacheState K V) (value : V)
        (new : CacheState K V)
        (calls : List (HookCall K V)) (answer : Option (K × V))
        → WritesAdmitted rules equal_to key strategy old value calls answer new
        → KeepsTheCut old new
    WritesAdmitted-cut strategy old value _ _ _
        (WritesAdmitted.inserts_new mid calls inserts nothing evicts) =
        entered-cut (new_item rules key value (queue_for rules old key value Queue.Cold) 0) mid
        ∙ evicted-cut (rules.weight key value) old mid calls evicts
    WritesAdmitted-cut strategy old value _ _ _
        (WritesAdmitted.overwrites place before item touched after calls new there takes evicts) =
        evicted-cut 0 _ new calls evicts ∙ rewritten-cut place before _ after old
    WritesAdmitted-cut strategy old value _ _ _
        (WritesAdmitted.inserts_over_ghost before after calls new inserts there evicts) =
        evicted-cut 0 _ new calls evicts
        ∙ entered-cut (new_item rules key value Queue.Hot 0)
        (record old { ghosts = before ++ after })
    WritesAdmitted-cut strategy old value _ _ _
        (WritesAdmitted.inserts_over_loading before entry after calls new inserts there evicts) =
        evicted-cut 0 _ new calls evicts
        ∙ entered-cut (new_item rules key value entry.queue (first_mark old.mark_cut))
        (record old { loading = before ++ after })
    WritesAdmitted-cut strategy old value _ _ _ (WritesAdmitted.gives_back replaces none) = refl

    TakesOutItem-cut : (old new : CacheState K V) (calls : List (HookCall K V))
        → TakesOutItem equal_to old calls new → KeepsTheCut old new
    TakesOutItem-cut old _ _ (TakesOutItem.was_there place before item after there) =
        with_items-cut place (before ++ after) old
    TakesOutItem-cut old _ _ (TakesOutItem.was_absent none) = refl

    RejectsTooHeavy-cut : (strategy : Strategy) (old : CacheState K V) (value : V)
        (new : CacheState K V)
        (calls : List (HookCall K V)) (answer : Option (K × V))
        → RejectsTooHeavy equal_to key strategy old value calls answer new → KeepsTheCut old new
    RejectsTooHeavy-cut strategy old value _ _ _
        (RejectsTooHeavy.reports calls new inserts takes) = TakesOutItem-cut old new calls takes
    RejectsTooHeavy-cut strategy old value _ _ _
        (RejectsTooHeavy.gives_back calls new replaces takes) = TakesOutItem-cut old new calls takes

    pub Writes-cut : (strategy : Strategy) (old : CacheState K V) (value : V) (new : CacheState K V)
        (calls : List (HookCall K V)) (answer : Option (K × V))
        → Writes rules equal_to key strategy old value calls answer new → KeepsTheCut old new
    Writes-cut strategy old value _ _ _ (Writes.admitted first rest left answer new checks writes) =
        WritesAdmitted-cut strategy old left new rest answer writes
    Writes-cut strategy old value _ _ _
        (Writes.too_heavy first rest left answer new checks rejects) =
        RejectsTooHeavy-cut strategy old left new rest answer rejects

  -- a placeholder that is filled
  MakesRoomFor-cut : (ticket : ℕ) (old : CacheState K V) (weight : ℕ) (mid new : CacheState K V)
      (calls : List (HookCall K V)) → MakesRoomFor ticket old rules weight mid calls new
      → KeepsTheCut mid new
  MakesRoomFor-cut ticket old weight mid _ _ (MakesRoomFor.takes_none weightless) = refl
  MakesRoomFor-cut ticket old weight mid _ _ (MakesRoomFor.takes_some calls new weighs evicts) =
      evicted-cut 0 mid new calls evicts

  pub FillsPlaceholder-cut : (ticket : ℕ) (marked : Bool) (old : CacheState K V) (value : V)
      (new : CacheState K V) (calls : List (HookCall K V)) (answer : Option V)
      → FillsPlaceholder ticket old rules marked value calls answer new → KeepsTheCut old new
  FillsPlaceholder-cut ticket marked old value _ _ _ (FillsPlaceholder.was_gone none) = refl
  FillsPlaceholder-cut ticket marked old value _ _ _
      (FillsPlaceholder.fills before entry after left first rest new there checks makes) =
      let item = new_item rules entry.key left (queue_for rules old entry.key left entry.queue)
      (if marked then first_mark old.mark_cut else 0) in
      let mid : CacheState K V = record old { loading = before ++ after } in
      MakesRoomFor-cut ticket old (rules.weight entry.key left) (entered item mid) new rest makes
      ∙ entered-cut item mid
  FillsPlaceholder-cut ticket marked old value _ _ _
      (FillsPlaceholder.too_heavy before entry after left first there checks) = refl

  -- an entry call
  reweighed-cut : (place : Place) (before : List (Item K V)) (item : Item K V)
      (after : List (Item K V)) (left : V) (state : CacheState K V)
      → KeepsTheCut state (reweighed rules place before item after left state)
  reweighed-cut place before item after left state = rewritten-cut place before _ after state

  pub ActsOnEntry-cut : (stands_for : K → Bool) (old : CacheState K V) (item : Item K V)
      (left : V) (choice : EntryChoice) (outcome : EntryOutcome) (new : CacheState K V)
      → ActsOnEntry rules stands_for old item left choice outcome new → KeepsTheCut old new
  ActsOnEntry-cut stands_for old item left _ _ _ (ActsOnEntry.kept place before after there) =
      reweighed-cut place before (looked_up old.mark_cut item) after left old
  ActsOnEntry-cut stands_for old item left _ _ _
      (ActsOnEntry.removed place before after now front back there again) =
      with_items-cut now (front ++ back) _ ∙ reweighed-cut place before item after left old
  ActsOnEntry-cut stands_for old item left _ _ _
      (ActsOnEntry.replaced place before after now front back there again provided) =
      with_items-cut now (front ++ back) _ ∙ reweighed-cut place before item after left old
  ActsOnEntry-cut stands_for old item left _ _ _
      (ActsOnEntry.refused place before after refusal there cause) =
      reweighed-cut place before item after left old

  -- a new capacity
  pub SetsCapacity-cut : (capacity : ℕ) (old new : CacheState K V) (calls : List (HookCall K V))
      → SetsCapacity rules capacity old calls new → KeepsTheCut old new
  SetsCapacity-cut capacity old _ calls (SetsCapacity.sets mid _ evicts) =
      evicted-cut 0 (resized rules capacity old) mid calls evicts

module _ {K V : Type 0} (equal : K → K → Bool) (rules : Rules K V) where
  -- one step
  Step-cut : (old new : CacheState K V) → Step equal rules old new → KeepsTheCut old new
  Step-cut old _ (Step.writes key strategy value calls answer new writes) =
      Writes-cut rules (equal key) key strategy old value new calls answer writes
  Step-cut old _ (Step.makes stands_for hash key new exact makes) =
      MakesPlaceholder-cut stands_for hash key old new makes
  Step-cut old _ (Step.meets stands_for ticket new meets) =
      MeetsPlaceholder-cut stands_for ticket old new meets
  Step-cut old _ (Step.fills ticket marked value calls answer new filled) =
      FillsPlaceholder-cut rules ticket marked old value new calls answer filled
  Step-cut old _ (Step.gives_up ticket new gives_up) =
      GivesUpPlaceholder-cut ticket old new gives_up
  Step-cut old _ (Step.looks_up stands_for shown new looks) =
      LooksUp-cut (λ item. item.value) stands_for old new shown looks
  Step-cut old _ (Step.removes stands_for hash answer new removes) =
      Removes-cut stands_for hash old new answer removes
  Step-cut old _ (Step.removes_if stands_for passes answer new removes) =
      RemovesIf-cut stands_for passes old new answer removes
  Step-cut old _ (Step.retains keeps new retains) = Retains-cut keeps old new retains
  Step-cut old _ (Step.drains pairs new drains) = Drains-cut old new pairs drains
  Step-cut old _ (Step.acts stands_for item left choice outcome new acts) =
      ActsOnEntry-cut rules stands_for old item left choice outcome new acts
  Step-cut old _ (Step.reweighs stands_for place before item after left there) =
      reweighed-cut rules place before item after left old
  Step-cut old _ (Step.sets_capacity capacity calls new set) =
      SetsCapacity-cut rules capacity old new calls set
  Step-cut old _ (Step.orders new order) =
      ap (λ (state : CacheState K V). state.mark_cut) order.same

  -- any list of steps
  pub Steps-cut : (old new : CacheState K V) → Steps equal rules old new → KeepsTheCut old new
  Steps-cut old _ (Steps.done _) = refl
  Steps-cut old _ (Steps.goes_on _ mid new step rest) =
      Steps-cut mid new rest ∙ Step-cut old mid step
