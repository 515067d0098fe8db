-- Laws of steps beside shared reads: whatever a step may do where fewer counts of touches may be,
-- it may do where more may.
use Rattle.std.proofs.Common.{ℕ, Bool, true, false, List, [], ◌∷◌, Option}
use Rattle.quick_cache_model.specs.declared.queue.Queue.{Queue}
use Rattle.quick_cache_model.specs.CacheState.{CacheState, Item}
use Rattle.quick_cache_model.specs.Hooks.{Rules, HookCall}
use Rattle.quick_cache_model.specs.Touches.{TakesTouches, RaisesMarks}
use Rattle.quick_cache_model.specs.Eviction.{EvictsVictim, AdvancesHot, EvictsToTarget, AdvancesCold, EvictsToCapacity}
use Rattle.quick_cache_model.specs.Admission.{Admission, ChecksAdmission}
use Rattle.quick_cache_model.specs.Writes.{Strategy, WritesAdmitted, Writes}
use Rattle.quick_cache_model.specs.Placeholders.{MakesRoomFor, FillsPlaceholder}
use Rattle.quick_cache_model.specs.Capacity.{SetsCapacity}

module _ {K V : Type 0} (few many : ℕ → Type 0) (more : (n : ℕ) → few n → many n) where
  -- touches that may be taken in where fewer may be
  pub TakesTouches-more : (cut : ℕ) (old new : Item K V) → TakesTouches cut few old new
      → TakesTouches cut many old new
  TakesTouches-more cut old new takes = (takes.0, more takes.0 takes.1, takes.2)

  -- at each item of a list
  pub RaisesMarks-more : (cut : ℕ) (old new : List (Item K V)) → RaisesMarks cut few old new
      → RaisesMarks cut many old new
  RaisesMarks-more cut [] [] raised = tt
  RaisesMarks-more cut [] (y ∷ ys) raised = absurd raised
  RaisesMarks-more cut (x ∷ xs) [] raised = absurd raised
  RaisesMarks-more cut (x ∷ xs) (y ∷ ys) raised =
      (TakesTouches-more cut x y raised.0, RaisesMarks-more cut xs ys raised.1)

module _ {K V : Type 0} (rules : Rules K V) (many : ℕ → Type 0)
    (more : (n : ℕ) → rules.may_count n → many n) where
  -- the fate of a victim takes no touches
  EvictsVictim-more : (queue : Queue) (old : CacheState K V) (item : Item K V)
      (calls : List (HookCall K V)) (new : CacheState K V)
      → EvictsVictim rules queue old item calls new
      → EvictsVictim (record rules { may_count = many }) queue old item calls new
  EvictsVictim-more queue old item _ _ (EvictsVictim.stays left light) =
      EvictsVictim.stays left light
  EvictsVictim-more Queue.Hot old item _ _ (EvictsVictim.leaves left heavy) =
      EvictsVictim.leaves left heavy
  EvictsVictim-more Queue.Cold old item _ _ (EvictsVictim.leaves left heavy) =
      EvictsVictim.leaves left heavy

  -- a hot advance
  pub AdvancesHot-more : (old : CacheState K V) (answer : Bool) (calls : List (HookCall K V))
      (new : CacheState K V)
      → AdvancesHot rules old answer calls new
      → AdvancesHot (record rules { may_count = many }) old answer calls new
  AdvancesHot-more old _ _ _ (AdvancesHot.all_pinned hot raised pinned) =
      AdvancesHot.all_pinned hot (RaisesMarks-more rules.may_count many more old.mark_cut old.hot
      hot raised)
      pinned
  AdvancesHot-more old _ _ _ (AdvancesHot.evicts hot before item after calls new raised split first
      evicts) =
      AdvancesHot.evicts hot before item after calls new
      (RaisesMarks-more rules.may_count many more old.mark_cut old.hot hot raised) split
      (record { unpinned = first.unpinned; earlier = first.earlier; later = first.later })
      (EvictsVictim-more Queue.Hot _ _ calls new evicts)

  -- eviction down to the target
  pub EvictsToTarget-more : (old : CacheState K V) (calls : List (HookCall K V))
      (new : CacheState K V)
      → EvictsToTarget rules old calls new → EvictsToTarget (record rules { may_count = many })
      old calls new
  EvictsToTarget-more _ _ _ (EvictsToTarget.has_room old fits) = EvictsToTarget.has_room old fits
  EvictsToTarget-more _ _ _ (EvictsToTarget.gives_up old new calls above advances) =
      EvictsToTarget.gives_up old new calls above (AdvancesHot-more old false calls new advances)
  EvictsToTarget-more _ _ _ (EvictsToTarget.goes_on old mid new first rest above advances goes) =
      EvictsToTarget.goes_on old mid new first rest above
      (AdvancesHot-more old true first mid advances) (EvictsToTarget-more mid rest new goes)

  -- a cold advance
  pub AdvancesCold-more : (old : CacheState K V) (answer : Bool) (calls : List (HookCall K V))
      (new : CacheState K V)
      → AdvancesCold rules old answer calls new
      → AdvancesCold (record rules { may_count = many }) old answer calls new
  AdvancesCold-more old _ _ _ (AdvancesCold.promotes cold before item after calls new raised split
      passed marked goes) =
      AdvancesCold.promotes cold before item after calls new
      (RaisesMarks-more rules.may_count many more old.mark_cut old.cold cold raised) split passed
      marked
      (EvictsToTarget-more _ calls new goes)
  AdvancesCold-more old _ _ _ (AdvancesCold.evicts cold before item after calls new raised split
      passed unmarked unpinned evicts) =
      AdvancesCold.evicts cold before item after calls new
      (RaisesMarks-more rules.may_count many more old.mark_cut old.cold cold raised)
      split passed unmarked unpinned
      (EvictsVictim-more Queue.Cold _ _ calls new evicts)
  AdvancesCold-more old _ _ _ (AdvancesCold.passes_all cold answer calls new raised passed advances)
      =
      AdvancesCold.passes_all cold answer calls new
      (RaisesMarks-more rules.may_count many more old.mark_cut old.cold cold raised) passed
      (AdvancesHot-more _ answer calls new advances)

  -- room that can be made by one thread can be made beside shared reads
  pub EvictsToCapacity-more : (need : ℕ) (old : CacheState K V) (calls : List (HookCall K V))
      (new : CacheState K V)
      → EvictsToCapacity rules need old calls new
      → EvictsToCapacity (record rules { may_count = many }) need old calls new
  EvictsToCapacity-more need _ _ _ (EvictsToCapacity.has_room old fits) =
      EvictsToCapacity.has_room old fits
  EvictsToCapacity-more need _ _ _ (EvictsToCapacity.gives_up old new calls above advances) =
      EvictsToCapacity.gives_up old new calls above (AdvancesCold-more old false calls new advances)
  EvictsToCapacity-more need _ _ _ (EvictsToCapacity.goes_on old mid new first rest above advances
      goes) =
      EvictsToCapacity.goes_on old mid new first rest above
      (AdvancesCold-more old true first mid advances)
      (EvictsToCapacity-more need mid rest new goes)

  -- so can a capacity be set
  pub SetsCapacity-more : (capacity : ℕ) (old : CacheState K V) (calls : List (HookCall K V))
      (new : CacheState K V)
      → SetsCapacity rules capacity old calls new
      → SetsCapacity (record rules { may_count = many }) capacity old calls new
  SetsCapacity-more capacity old _ _ (SetsCapacity.sets mid calls evicts) =
      SetsCapacity.sets mid calls (EvictsToCapacity-more 0 _ calls mid evicts)

  -- an admission check takes no touches
  ChecksAdmission-more : (hot_target : ℕ) (key : K) (value : V) (calls : List (HookCall K V))
      (answer : Admission V)
      → ChecksAdmission rules hot_target key value calls answer
      → ChecksAdmission (record rules { may_count = many }) hot_target key value calls answer
  ChecksAdmission-more hot_target key value _ _ (ChecksAdmission.is_light light) =
      ChecksAdmission.is_light light
  ChecksAdmission-more hot_target key value _ _ (ChecksAdmission.is_pinned heavy pinned) =
      ChecksAdmission.is_pinned heavy pinned
  ChecksAdmission-more hot_target key value _ _
      (ChecksAdmission.was_lightened left heavy unpinned light) =
      ChecksAdmission.was_lightened left heavy unpinned light
  ChecksAdmission-more hot_target key value _ _
      (ChecksAdmission.is_too_heavy left heavy unpinned still_heavy) =
      ChecksAdmission.is_too_heavy left heavy unpinned still_heavy

  module _ (equal_to : K → Bool) (key : K) where
    -- the write of a pair that was admitted
    WritesAdmitted-more : (strategy : Strategy) (old : CacheState K V) (value : V)
        (calls : List (HookCall K V)) (answer : Option (K × V)) (new : CacheState K V)
        → WritesAdmitted rules equal_to key strategy old value calls answer new
        → WritesAdmitted (record rules { may_count = many })
        equal_to key strategy old value calls answer new
    WritesAdmitted-more strategy old value _ _ _
        (WritesAdmitted.inserts_new mid calls inserts nothing evicts) =
        WritesAdmitted.inserts_new mid calls inserts nothing
        (EvictsToCapacity-more _ old calls mid evicts)
    WritesAdmitted-more strategy old value _ _ _
        (WritesAdmitted.overwrites place before item touched after calls new there takes evicts) =
        WritesAdmitted.overwrites place before item touched after calls new there
        (TakesTouches-more rules.may_count many more old.mark_cut item touched takes)
        (EvictsToCapacity-more 0 _ calls new evicts)
    WritesAdmitted-more strategy old value _ _ _
        (WritesAdmitted.inserts_over_ghost before after calls new inserts there evicts) =
        WritesAdmitted.inserts_over_ghost before after calls new inserts there
        (EvictsToCapacity-more 0 _ calls new evicts)
    WritesAdmitted-more strategy old value _ _ _
        (WritesAdmitted.inserts_over_loading before entry after calls new inserts there evicts) =
        WritesAdmitted.inserts_over_loading before entry after calls new inserts there
        (EvictsToCapacity-more 0 _ calls new evicts)
    WritesAdmitted-more strategy old value _ _ _ (WritesAdmitted.gives_back replaces none) =
        WritesAdmitted.gives_back replaces none

    -- and a pair be written
    pub Writes-more : (strategy : Strategy) (old : CacheState K V) (value : V)
        (calls : List (HookCall K V)) (answer : Option (K × V)) (new : CacheState K V)
        → Writes rules equal_to key strategy old value calls answer new
        → Writes (record rules { may_count = many })
        equal_to key strategy old value calls answer new
    Writes-more strategy old value _ _ _ (Writes.admitted first rest left answer new checks writes)
        =
        Writes.admitted first rest left answer new
        (ChecksAdmission-more old.hot_target key value first _ checks)
        (WritesAdmitted-more strategy old left rest answer new writes)
    Writes-more strategy old value _ _ _ (Writes.too_heavy first rest left answer new checks
        rejects) =
        Writes.too_heavy first rest left answer new
        (ChecksAdmission-more old.hot_target key value first _ checks)
        rejects

  -- the room that a filled placeholder takes
  MakesRoomFor-more : (ticket : ℕ) (old : CacheState K V) (weight : ℕ) (mid : CacheState K V)
      (calls : List (HookCall K V)) (new : CacheState K V)
      → MakesRoomFor ticket old rules weight mid calls new
      → MakesRoomFor ticket old (record rules { may_count = many }) weight mid calls new
  MakesRoomFor-more ticket old weight mid _ _ (MakesRoomFor.takes_none light) =
      MakesRoomFor.takes_none light
  MakesRoomFor-more ticket old weight mid _ _ (MakesRoomFor.takes_some calls new heavy evicts) =
      MakesRoomFor.takes_some calls new heavy (EvictsToCapacity-more 0 mid calls new evicts)

  -- and a placeholder be filled
  pub FillsPlaceholder-more : (ticket : ℕ) (marked : Bool) (old : CacheState K V) (value : V)
      (calls : List (HookCall K V)) (answer : Option V) (new : CacheState K V)
      → FillsPlaceholder ticket old rules marked value calls answer new
      → FillsPlaceholder ticket old (record rules { may_count = many })
      marked value calls answer new
  FillsPlaceholder-more ticket marked old value _ _ _ (FillsPlaceholder.was_gone none) =
      FillsPlaceholder.was_gone none
  FillsPlaceholder-more ticket marked old value _ _ _
      (FillsPlaceholder.fills before entry after left first rest new there checks makes) =
      FillsPlaceholder.fills before entry after left first rest new there
      (ChecksAdmission-more old.hot_target entry.key value first _ checks)
      (MakesRoomFor-more ticket old _ _ rest new makes)
  FillsPlaceholder-more ticket marked old value _ _ _
      (FillsPlaceholder.too_heavy before entry after left first there checks) =
      FillsPlaceholder.too_heavy before entry after left first there
      (ChecksAdmission-more old.hot_target entry.key value first _ checks)
