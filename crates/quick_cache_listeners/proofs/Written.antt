-- What the hooks of a write tell.
use Rattle.std.proofs.Common.{◌≡◌, ℕ, ◌≤◌, ◌<◌, ◌⊎◌, inl, inr, Bool, true, false, true≢false, List, [], ◌∷◌, ◌++◌, refl, ap, arith, sym}
use Rattle.std.proofs.Common.{◌∙◌, subst}
use Rattle.std.specs.Prelude.{Option}
use Rattle.std.specs.List.{AllZip}
use Rattle.quick_cache_model.specs.declared.queue.Queue.{Queue}
use Rattle.quick_cache_model.specs.CacheState.{CacheState, Item}
use Rattle.quick_cache_model.specs.Hooks.{Rules, HookCall, evicted}
use Rattle.quick_cache_model.specs.Admission.{ChecksAdmission}
use Rattle.quick_cache_model.specs.Writes.{Strategy, TakesOutItem, RejectsTooHeavy, WritesAdmitted, Writes}
use Rattle.quick_cache_listeners.specs.declared.causes.cause.Stage.{Stage}
use Rattle.quick_cache_listeners.specs.declared.causes.cause.Cause.{Cause}
use Rattle.quick_cache_listeners.specs.Causes.{told, evictions, truth_of_taking_out, truth_of_rejection, truth_of_admitted, truth_of}
use Rattle.quick_cache_listeners.specs.Causes.{MayMean}
use Rattle.quick_cache_listeners.proofs.Told.{AreEvictions-told, EvictsToCapacity-evictions}

-- a pair that is light enough or pinned is not both too heavy and unpinned
contradiction : {weight target : ℕ} {pinned : Bool} → (weight ≤ target) ⊎ (pinned ≡ true)
    → target < weight → pinned ≡ false → ⊥
contradiction (inl light) heavy unpinned = omega (arith, light, heavy)
contradiction (inr pinned) heavy unpinned = true≢false (sym pinned ∙ unpinned)

module _ {K V : Type 0} where
  -- what is told is so
  pub nearly-same : (pairs : List (K × V × Cause)) → AllZip MayMean pairs pairs
  nearly-same [] = tt
  nearly-same (pair ∷ pairs) = (MayMean.what_is_told pair, nearly-same pairs)

  pub nearly-equal : (pairs others : List (K × V × Cause)) → pairs ≡ others
      → AllZip MayMean pairs others
  nearly-equal pairs others e = subst (λ there. AllZip MayMean pairs there) e (nearly-same pairs)

module _ {K V : Type 0} (rules : Rules K V) (equal_to : K → Bool) (key : K) (strategy : Strategy)
    (old : CacheState K V) where
  -- a write without a check that calls a hook tells what is so
  pub admitted-light : (value : V) (calls : List (HookCall K V)) (answer : Option (K × V))
      (new : CacheState K V)
      (writes : WritesAdmitted rules equal_to key strategy old value calls answer new)
      → told Stage.Fresh calls ≡ truth_of_admitted rules equal_to key strategy old value calls
      answer new
      writes
  admitted-light value _ _ _ (WritesAdmitted.inserts_new mid calls inserts nothing evicts) =
      AreEvictions-told Stage.Fresh calls (EvictsToCapacity-evictions rules _ old mid calls evicts)
  admitted-light value _ _ _
      (WritesAdmitted.overwrites place before item touched after calls new there takes evicts) =
      over item.queue
    where
      over : (queue : Queue) → told Stage.Fresh (evicted queue item.key item.value ∷ calls)
          ≡ (item.key, item.value, Cause.Replaced) ∷ evictions calls
      over Queue.Hot = ap (λ more. (item.key, item.value, Cause.Replaced) ∷ more)
          (AreEvictions-told Stage.Told calls
          (EvictsToCapacity-evictions rules _ _ new calls evicts))
      over Queue.Cold = ap (λ more. (item.key, item.value, Cause.Replaced) ∷ more)
          (AreEvictions-told Stage.Told calls
          (EvictsToCapacity-evictions rules _ _ new calls evicts))
  admitted-light value _ _ _
      (WritesAdmitted.inserts_over_ghost before after calls new inserts there evicts) =
      AreEvictions-told Stage.Fresh calls (EvictsToCapacity-evictions rules _ _ new calls evicts)
  admitted-light value _ _ _
      (WritesAdmitted.inserts_over_loading before entry after calls new inserts there evicts) =
      AreEvictions-told Stage.Fresh calls (EvictsToCapacity-evictions rules _ _ new calls evicts)
  admitted-light value _ _ _ (WritesAdmitted.gives_back replaces none) = refl

  -- behind a check that called `before_evict`, the item that is replaced is told as a victim
  pub admitted-armed : (value : V) (calls : List (HookCall K V)) (answer : Option (K × V))
      (new : CacheState K V)
      (writes : WritesAdmitted rules equal_to key strategy old value calls answer new)
      → AllZip MayMean (told Stage.Armed calls)
      (truth_of_admitted rules equal_to key strategy old value calls answer new writes)
  admitted-armed value _ _ _ (WritesAdmitted.inserts_new mid calls inserts nothing evicts) =
      nearly-equal _ _
      (AreEvictions-told Stage.Armed calls
      (EvictsToCapacity-evictions rules _ old mid calls evicts))
  admitted-armed value _ _ _
      (WritesAdmitted.overwrites place before item touched after calls new there takes evicts) =
      over item.queue
    where
      over : (queue : Queue)
          → AllZip MayMean (told Stage.Armed (evicted queue item.key item.value ∷ calls))
          ((item.key, item.value, Cause.Replaced) ∷ evictions calls)
      over Queue.Hot = (
        MayMean.hot_was_replaced item.key item.value,
        nearly-equal _ _
            (AreEvictions-told Stage.Told calls
            (EvictsToCapacity-evictions rules _ _ new calls evicts)),
      )
      over Queue.Cold = (
        MayMean.cold_was_replaced item.key item.value,
        nearly-equal _ _
            (AreEvictions-told Stage.Told calls
            (EvictsToCapacity-evictions rules _ _ new calls evicts)),
      )
  admitted-armed value _ _ _
      (WritesAdmitted.inserts_over_ghost before after calls new inserts there evicts) =
      nearly-equal _ _
      (AreEvictions-told Stage.Armed calls (EvictsToCapacity-evictions rules _ _ new calls evicts))
  admitted-armed value _ _ _
      (WritesAdmitted.inserts_over_loading before entry after calls new inserts there evicts) =
      nearly-equal _ _
      (AreEvictions-told Stage.Armed calls (EvictsToCapacity-evictions rules _ _ new calls evicts))
  admitted-armed value _ _ _ (WritesAdmitted.gives_back replaces none) = tt

  -- behind a check that found the pair too heavy
  pub rejected-armed : (value : V) (calls : List (HookCall K V)) (answer : Option (K × V))
      (new : CacheState K V)
      (rejects : RejectsTooHeavy equal_to key strategy old value calls answer new)
      → AllZip MayMean (told Stage.Armed calls)
      (truth_of_rejection equal_to key strategy old value calls answer new rejects)
  rejected-armed value _ _ _ (RejectsTooHeavy.reports calls new inserts takes) =
      out new calls takes
    where
      with_item : (item : Item K V) (queue : Queue)
          → AllZip MayMean (told Stage.Armed
          (evicted queue item.key item.value ∷ HookCall.EvictCold key value ∷ []))
          ((item.key, item.value, Cause.Replaced) ∷ (key, value, Cause.TurnedAway) ∷ [])
      with_item item Queue.Hot =
          (MayMean.hot_was_replaced item.key item.value, (MayMean.what_is_told _, tt))
      with_item item Queue.Cold =
          (MayMean.cold_was_replaced item.key item.value, (MayMean.what_is_told _, tt))

      out : (new : CacheState K V) (calls : List (HookCall K V))
          (takes : TakesOutItem equal_to old calls new)
          → AllZip MayMean (told Stage.Armed (calls ++ HookCall.EvictCold key value ∷ []))
          (truth_of_taking_out equal_to old new calls takes ++ (key, value, Cause.TurnedAway) ∷ [])
      out _ _ (TakesOutItem.was_there place before item after there) = with_item item item.queue
      out _ _ (TakesOutItem.was_absent none) = (MayMean.cold_was_turned_away key value, tt)
  rejected-armed value _ _ _ (RejectsTooHeavy.gives_back calls new replaces takes) =
      out new calls takes
    where
      with_item : (item : Item K V) (queue : Queue)
          → AllZip MayMean (told Stage.Armed (evicted queue item.key item.value ∷ []))
          ((item.key, item.value, Cause.Replaced) ∷ [])
      with_item item Queue.Hot = (MayMean.hot_was_replaced item.key item.value, tt)
      with_item item Queue.Cold = (MayMean.cold_was_replaced item.key item.value, tt)

      out : (new : CacheState K V) (calls : List (HookCall K V))
          (takes : TakesOutItem equal_to old calls new)
          → AllZip MayMean (told Stage.Armed calls)
          (truth_of_taking_out equal_to old new calls takes)
      out _ _ (TakesOutItem.was_there place before item after there) = with_item item item.queue
      out _ _ (TakesOutItem.was_absent none) = tt

  -- whatever is written, what is told may mean what is so
  pub write-nearly : (value : V) (calls : List (HookCall K V)) (answer : Option (K × V))
      (new : CacheState K V) (writes : Writes rules equal_to key strategy old value calls answer new)
      → AllZip MayMean (told Stage.Fresh calls)
      (truth_of rules equal_to key strategy old value calls answer new writes)
  write-nearly value _ _ _ (Writes.admitted _ rest _ answer new
      (ChecksAdmission.is_light light) writes) =
      nearly-equal _ _ (admitted-light value rest answer new writes)
  write-nearly value _ _ _ (Writes.admitted _ rest _ answer new
      (ChecksAdmission.is_pinned heavy pinned) writes) =
      nearly-equal _ _ (admitted-light value rest answer new writes)
  write-nearly value _ _ _ (Writes.admitted _ rest _ answer new
      (ChecksAdmission.was_lightened left heavy unpinned light) writes) =
      admitted-armed left rest answer new writes
  write-nearly value _ _ _ (Writes.too_heavy _ rest _ answer new
      (ChecksAdmission.is_too_heavy left heavy unpinned still) rejects) =
      rejected-armed left rest answer new rejects

  -- and where the pair is light enough or pinned, it is so
  pub write-light : (value : V) (calls : List (HookCall K V)) (answer : Option (K × V))
      (new : CacheState K V) (writes : Writes rules equal_to key strategy old value calls answer new)
      → (rules.weight key value ≤ old.hot_target) ⊎ (rules.pinned key value ≡ true)
      → told Stage.Fresh calls ≡ truth_of rules equal_to key strategy old value calls answer new
      writes
  write-light value _ _ _ (Writes.admitted _ rest _ answer new
      (ChecksAdmission.is_light light) writes) either =
      admitted-light value rest answer new writes
  write-light value _ _ _ (Writes.admitted _ rest _ answer new
      (ChecksAdmission.is_pinned heavy pinned) writes) either =
      admitted-light value rest answer new writes
  write-light value _ _ _ (Writes.admitted _ rest _ answer new
      (ChecksAdmission.was_lightened left heavy unpinned light) writes) either =
      absurd (contradiction either heavy unpinned)
  write-light value _ _ _ (Writes.too_heavy _ rest _ answer new
      (ChecksAdmission.is_too_heavy left heavy unpinned still) rejects) either =
      absurd (contradiction either heavy unpinned)
