-- No pinned pair is a victim, call by call.
use Rattle.std.proofs.Common.{◌≡◌, ℕ, Bool, true, false, List, [], ◌∷◌, ◌++◌, Option, Some, None}
use Rattle.std.specs.List.{AllByRecursion}
use Rattle.quick_cache_model.specs.declared.queue.Queue.{Queue}
use Rattle.quick_cache_model.specs.Admission.{Admission, ChecksAdmission, Admitted, TooHeavy}
use Rattle.quick_cache_model.specs.CacheState.{CacheState, Item}
use Rattle.quick_cache_model.specs.Capacity.{SetsCapacity, resized}
use Rattle.quick_cache_model.specs.Eviction.{pinned, EvictsVictim, AdvancesHot, EvictsToTarget, AdvancesCold, EvictsToCapacity, lowered}
use Rattle.quick_cache_model.specs.Eviction.{promoted}
use Rattle.quick_cache_model.specs.Hooks.{Rules, HookCall, EvictCold, evicted}
use Rattle.quick_cache_model.specs.Placeholders.{FillsPlaceholder, MakesRoomFor}
use Rattle.quick_cache_model.specs.Writes.{Strategy, Writes, WritesAdmitted, RejectsTooHeavy, TakesOutItem}
use Rattle.quick_cache_model.proofs.EachElement.{all-append}
use Rattle.quick_cache_model.specs.declared.calls.call.Call.{Call}
use Rattle.quick_cache_model.specs.declared.calls.reply.Reply.{Reply}
use Rattle.quick_cache_model.specs.CacheRun.{CacheRun}
use Rattle.quick_cache_model.specs.CacheStep.{CacheStep}
use Rattle.quick_cache_model.specs.Loads.{Loads}
use Rattle.quick_cache_laws.specs.Victims.{IsOfUnpinned}

module _ {K V : Type 0} (rules : Rules K V) where
  -- in none of these calls is a pinned pair handed to the hook
  abbrev AreOfUnpinned : List (HookCall K V) → Type 0
  AreOfUnpinned calls = AllByRecursion (IsOfUnpinned rules) calls

  joined : (first rest : List (HookCall K V)) → AreOfUnpinned first → AreOfUnpinned rest
      → AreOfUnpinned (first ++ rest)
  joined = all-append (IsOfUnpinned rules)

  -- what is told of a pair that leaves asks for nothing
  told : (queue : Queue) (key : K) (value : V) → IsOfUnpinned rules (evicted queue key value)
  told Queue.Hot key value = tt
  told Queue.Cold key value = tt

  victim : (queue : Queue) (old : CacheState K V) (item : Item K V) (calls : List (HookCall K V))
      (new : CacheState K V) → pinned rules item ≡ false
      → EvictsVictim rules queue old item calls new → AreOfUnpinned calls
  victim queue old item _ _ unpinned (EvictsVictim.stays left light) = (unpinned, tt)
  victim queue old item _ _ unpinned (EvictsVictim.leaves left heavy) =
      (unpinned, (told queue item.key left, tt))

  hot_advance : (old : CacheState K V) (answer : Bool) (calls : List (HookCall K V))
      (new : CacheState K V) → AdvancesHot rules old answer calls new → AreOfUnpinned calls
  hot_advance old _ _ _ (AdvancesHot.all_pinned hot raised all) = tt
  hot_advance old _ _ _ (AdvancesHot.evicts hot before item after calls new raised split first
      evicts) = victim Queue.Hot _ (lowered item.mark item) calls new first.unpinned evicts

  to_target : (old : CacheState K V) (calls : List (HookCall K V)) (new : CacheState K V)
      → EvictsToTarget rules old calls new → AreOfUnpinned calls
  to_target _ _ _ (EvictsToTarget.has_room old fits) = tt
  to_target _ _ _ (EvictsToTarget.gives_up old new calls above advances) =
      hot_advance old false calls new advances
  to_target _ _ _ (EvictsToTarget.goes_on old mid new first rest above advances goes) =
      joined first rest (hot_advance old true first mid advances) (to_target mid rest new goes)

  cold_advance : (old : CacheState K V) (answer : Bool) (calls : List (HookCall K V))
      (new : CacheState K V) → AdvancesCold rules old answer calls new → AreOfUnpinned calls
  cold_advance old _ _ _ (AdvancesCold.promotes cold before item after calls new raised split
      passed marked goes) = to_target (promoted rules before item after old) calls new goes
  cold_advance old _ _ _ (AdvancesCold.evicts cold before item after calls new raised split passed
      unmarked unpinned evicts) = victim Queue.Cold _ item calls new unpinned evicts
  cold_advance old _ _ _ (AdvancesCold.passes_all cold answer calls new raised passed advances) =
      hot_advance (record old { cold = cold }) answer calls new advances

  to_capacity : (need : ℕ) (old : CacheState K V) (calls : List (HookCall K V))
      (new : CacheState K V) → EvictsToCapacity rules need old calls new → AreOfUnpinned calls
  to_capacity need _ _ _ (EvictsToCapacity.has_room old fits) = tt
  to_capacity need _ _ _ (EvictsToCapacity.gives_up old new calls above advances) =
      cold_advance old false calls new advances
  to_capacity need _ _ _
      (EvictsToCapacity.goes_on old mid new first rest above advances goes) =
      joined first rest (cold_advance old true first mid advances)
      (to_capacity need mid rest new goes)

  check : (hot_target : ℕ) (key : K) (value : V) (calls : List (HookCall K V))
      (answer : Admission V) → ChecksAdmission rules hot_target key value calls answer
      → AreOfUnpinned calls
  check hot_target key value _ _ (ChecksAdmission.is_light light) = tt
  check hot_target key value _ _ (ChecksAdmission.is_pinned heavy is_pinned) = tt
  check hot_target key value _ _ (ChecksAdmission.was_lightened left heavy unpinned light) =
      (unpinned, tt)
  check hot_target key value _ _ (ChecksAdmission.is_too_heavy left heavy unpinned more) =
      (unpinned, tt)

  module _ (equal_to : K → Bool) (key : K) where
    admitted : (strategy : Strategy) (old : CacheState K V) (value : V)
        (calls : List (HookCall K V)) (answer : Option (K × V)) (new : CacheState K V)
        → WritesAdmitted rules equal_to key strategy old value calls answer new
        → AreOfUnpinned calls
    admitted strategy old value _ _ _
        (WritesAdmitted.inserts_new mid calls inserts nothing evicts) =
        to_capacity _ old calls mid evicts
    admitted strategy old value _ _ _ (WritesAdmitted.overwrites place before item touched after
        calls new there takes evicts) =
        (told item.queue item.key item.value, to_capacity 0 _ calls new evicts)
    admitted strategy old value _ _ _
        (WritesAdmitted.inserts_over_ghost before after calls new inserts there evicts) =
        to_capacity 0 _ calls new evicts
    admitted strategy old value _ _ _
        (WritesAdmitted.inserts_over_loading before entry after calls new inserts there evicts) =
        to_capacity 0 _ calls new evicts
    admitted strategy old value _ _ _ (WritesAdmitted.gives_back replaces none) = tt

    taken_out : (old : CacheState K V) (calls : List (HookCall K V)) (new : CacheState K V)
        → TakesOutItem equal_to old calls new → AreOfUnpinned calls
    taken_out old _ _ (TakesOutItem.was_there place before item after there) =
        (told item.queue item.key item.value, tt)
    taken_out old _ _ (TakesOutItem.was_absent none) = tt

    rejected : (strategy : Strategy) (old : CacheState K V) (value : V)
        (calls : List (HookCall K V)) (answer : Option (K × V)) (new : CacheState K V)
        → RejectsTooHeavy equal_to key strategy old value calls answer new
        → AreOfUnpinned calls
    rejected strategy old value _ _ _ (RejectsTooHeavy.reports calls new inserts takes) =
        joined calls (EvictCold key value ∷ []) (taken_out old calls new takes) (tt, tt)
    rejected strategy old value _ _ _ (RejectsTooHeavy.gives_back calls new replaces takes) =
        taken_out old calls new takes

    written : (strategy : Strategy) (old : CacheState K V) (value : V)
        (calls : List (HookCall K V)) (answer : Option (K × V)) (new : CacheState K V)
        → Writes rules equal_to key strategy old value calls answer new → AreOfUnpinned calls
    written strategy old value _ _ _
        (Writes.admitted first rest left answer new checks writes) =
        joined first rest (check old.hot_target key value first (Admitted left) checks)
        (admitted strategy old left rest answer new writes)
    written strategy old value _ _ _
        (Writes.too_heavy first rest left answer new checks rejects) =
        joined first rest (check old.hot_target key value first (TooHeavy left) checks)
        (rejected strategy old left rest answer new rejects)

  room : (ticket : ℕ) (old : CacheState K V) (weight : ℕ) (mid : CacheState K V)
      (calls : List (HookCall K V)) (new : CacheState K V)
      → MakesRoomFor ticket old rules weight mid calls new → AreOfUnpinned calls
  room ticket old weight mid _ _ (MakesRoomFor.takes_none light) = tt
  room ticket old weight mid _ _ (MakesRoomFor.takes_some calls new heavy evicts) =
      to_capacity 0 mid calls new evicts

  filled : (ticket : ℕ) (old : CacheState K V) (marked : Bool) (value : V)
      (calls : List (HookCall K V)) (answer : Option V) (new : CacheState K V)
      → FillsPlaceholder ticket old rules marked value calls answer new → AreOfUnpinned calls
  filled ticket old marked value _ _ _ (FillsPlaceholder.was_gone none) = tt
  filled ticket old marked value _ _ _ (FillsPlaceholder.fills before entry after left first rest
      new there checks makes) =
      joined first rest (check old.hot_target entry.key value first (Admitted left) checks)
      (room ticket old _ _ rest new makes)
  filled ticket old marked value _ _ _ (FillsPlaceholder.too_heavy before entry after left first
      there checks) =
      joined first (EvictCold entry.key left ∷ [])
      (check old.hot_target entry.key value first (TooHeavy left) checks) (tt, tt)

  loaded : (stands_for : K → Bool) (hash : ℕ) (old : CacheState K V) (value : V)
      (calls : List (HookCall K V)) (new : CacheState K V)
      → Loads rules stands_for hash old value calls new → AreOfUnpinned calls
  loaded stands_for hash old value calls new loads =
      filled loads.ticket loads.mid false value calls None loads.fills.ordered loads.fills.holds

  resized_so : (capacity : ℕ) (old : CacheState K V) (calls : List (HookCall K V))
      (new : CacheState K V) → SetsCapacity rules capacity old calls new → AreOfUnpinned calls
  resized_so capacity old _ _ (SetsCapacity.sets mid calls evicts) =
      to_capacity 0 (resized rules capacity old) calls mid evicts

module _ {K V F M : Type 0} (rules : Rules K V) (equal : K → K → Bool)
    (shows_key : K → K → Type 0) (shows : V → V → Type 0) (answers : F → K → V → Bool) where
  step : (old : CacheState K V) (call : Call K V F) (reply : Reply K V M)
      (calls : List (HookCall K V)) (new : CacheState K V)
      → CacheStep rules equal shows_key shows answers old call reply calls new
      → AreOfUnpinned rules calls
  step old _ _ _ _ (CacheStep.inserts key value calls new provided writes) =
      written rules (equal key) key _ old value calls None writes.ordered writes.holds
  step old _ _ _ _ (CacheStep.replaces key value soft calls new writes) =
      written rules (equal key) key _ old value calls None writes.ordered writes.holds
  step old _ _ _ _ (CacheStep.gives_back key value soft back calls new writes) =
      written rules (equal key) key _ old value calls (Some back) writes.ordered writes.holds
  step old _ _ _ _ (CacheStep.loads key value there calls new loads tells) =
      loaded rules (equal key) (rules.hash key) old value calls new loads
  step old _ _ _ _ (CacheStep.loads_mut key value left there calls mid new loads writes) =
      loaded rules (equal key) (rules.hash key) old value calls mid loads
  step old _ _ _ _ (CacheStep.fills key value calls new loads) =
      loaded rules (equal key) (rules.hash key) old value calls new loads
  step old _ _ _ _ (CacheStep.fills_mut key value left calls new loads) =
      loaded rules (equal key) (rules.hash key) old value calls new loads
  step old _ _ _ _ (CacheStep.sets_capacity capacity calls new sets) =
      resized_so rules capacity old calls sets.ordered sets.holds
  step old _ _ _ _ (CacheStep.refuses_insert _ _ _ _) = tt
  step old _ _ _ _ (CacheStep.gets _ _ _ _ _ _) = tt
  step old _ _ _ _ (CacheStep.peeks _ _ _ _ _) = tt
  step old _ _ _ _ (CacheStep.refuses_look _ _ _ _ _ _ _ _ _ _) = tt
  step old _ _ _ _ (CacheStep.gets_mut _ _ _ _ _ _ _ _) = tt
  step old _ _ _ _ (CacheStep.peeks_mut _ _ _ _ _) = tt
  step old _ _ _ _ (CacheStep.tells _ _ _) = tt
  step old _ _ _ _ (CacheStep.tells_reads _ _ _) = tt
  step old _ _ _ _ (CacheStep.removes _ _ _ _) = tt
  step old _ _ _ _ (CacheStep.removes_if _ _ _ _ _) = tt
  step old _ _ _ _ (CacheStep.finds _ _ _ _ _ _ _ _ _ _ _ _) = tt
  step old _ _ _ _ (CacheStep.fails _ _ _) = tt
  step old _ _ _ _ (CacheStep.fails_mut _ _ _ _) = tt
  step old _ _ _ _ (CacheStep.drops _ _ _) = tt
  step old _ _ _ _ (CacheStep.drops_mut _ _ _ _) = tt
  step old _ _ _ _ (CacheStep.refuses_found _ _ _ _ _ _ _ _ _ _ _ _) = tt
  step old _ _ _ _ (CacheStep.refuses_load _ _ _ _ _ _ _) = tt
  step old _ _ _ _ (CacheStep.walks _ _ _ _) = tt
  step old _ _ _ _ (CacheStep.drains _ _ _) = tt
  step old _ _ _ _ CacheStep.clears = tt
  step old _ _ _ _ (CacheStep.retains _ _ _) = tt
  step old _ _ _ _ CacheStep.counts = tt
  step old _ _ _ _ (CacheStep.reserves _) = tt
  step old _ _ _ _ (CacheStep.refuses_room _ _ _ _) = tt

  -- and in a run
  pub CacheRun-unpinned : (old : CacheState K V) (calls : List (Call K V F))
      (replies : List (Reply K V M)) (hook_calls : List (HookCall K V)) (new : CacheState K V)
      → CacheRun rules equal shows_key shows answers old calls replies hook_calls new
      → AreOfUnpinned rules hook_calls
  CacheRun-unpinned _ _ _ _ _ (CacheRun.ends state) = tt
  CacheRun-unpinned _ _ _ _ _
      (CacheRun.goes_on old mid new call reply calls replies first rest one run) =
      joined rules first rest (step old call reply first mid one)
      (CacheRun-unpinned mid calls replies rest new run)
