-- What the order of the hooks tells of why a pair left, and what is so.
use Rattle.std.specs.Prelude.{Bool, List, [], ◌∷◌, ◌++◌, Option}
use Rattle.quick_cache_model.specs.declared.queue.Queue.{Queue}
use Rattle.quick_cache_model.specs.CacheState.{CacheState}
use Rattle.quick_cache_model.specs.Hooks.{Rules, HookCall, BeforeEvict, EvictHot, EvictCold}
use Rattle.quick_cache_model.specs.Writes.{Strategy, TakesOutItem, RejectsTooHeavy, WritesAdmitted, Writes}
use Rattle.quick_cache_listeners.specs.declared.causes.cause.Cause.{Cause}
use Rattle.quick_cache_listeners.specs.declared.causes.cause.Stage.{Stage}

-- Behind a `before_evict` a pair is told as a victim. Else the first of a call was replaced, and one
-- that follows another was turned away.
abbrev pub cause_at : Stage → Queue → Cause
cause_at Stage.Fresh Queue.Hot = Cause.Replaced
cause_at Stage.Fresh Queue.Cold = Cause.Replaced
cause_at Stage.Armed Queue.Hot = Cause.EvictedHot
cause_at Stage.Armed Queue.Cold = Cause.EvictedCold
cause_at Stage.Told Queue.Hot = Cause.TurnedAway
cause_at Stage.Told Queue.Cold = Cause.TurnedAway

module _ {K V : Type 0} where
  -- the pairs that leave, with the causes that are told
  abbrev pub told : Stage → List (HookCall K V) → List (K × V × Cause)
  told stage [] = []
  told stage (BeforeEvict key value left ∷ calls) = told Stage.Armed calls
  told stage (EvictHot key value ∷ calls) =
      (key, value, cause_at stage Queue.Hot) ∷ told Stage.Told calls
  told stage (EvictCold key value ∷ calls) =
      (key, value, cause_at stage Queue.Cold) ∷ told Stage.Told calls

  -- the pairs that leave as victims, each by its ring
  abbrev pub evictions : List (HookCall K V) → List (K × V × Cause)
  evictions [] = []
  evictions (BeforeEvict key value left ∷ calls) = evictions calls
  evictions (EvictHot key value ∷ calls) = (key, value, Cause.EvictedHot) ∷ evictions calls
  evictions (EvictCold key value ∷ calls) = (key, value, Cause.EvictedCold) ∷ evictions calls

  module _ (equal_to : K → Bool) where
    -- an item that a too heavy pair takes with it was replaced
    abbrev pub truth_of_taking_out : (old new : CacheState K V) (calls : List (HookCall K V))
        → TakesOutItem equal_to old calls new → List (K × V × Cause)
    truth_of_taking_out old _ _ (TakesOutItem.was_there place before item after there) =
        (item.key, item.value, Cause.Replaced) ∷ []
    truth_of_taking_out old _ _ (TakesOutItem.was_absent none) = []

    -- and an insert turns the pair away
    abbrev pub truth_of_rejection : (key : K) (strategy : Strategy) (old : CacheState K V) (value : V)
        (calls : List (HookCall K V)) (answer : Option (K × V)) (new : CacheState K V)
        → RejectsTooHeavy equal_to key strategy old value calls answer new → List (K × V × Cause)
    truth_of_rejection key strategy old value _ _ _ (RejectsTooHeavy.reports calls new inserts takes) =
        truth_of_taking_out old new calls takes ++ (key, value, Cause.TurnedAway) ∷ []
    truth_of_rejection key strategy old value _ _ _
        (RejectsTooHeavy.gives_back calls new replaces takes) =
        truth_of_taking_out old new calls takes

  module _ (rules : Rules K V) (equal_to : K → Bool) (key : K) (strategy : Strategy)
      (old : CacheState K V) where
    -- a written pair replaces the item under its key, and all others are victims
    abbrev pub truth_of_admitted : (value : V) (calls : List (HookCall K V)) (answer : Option (K × V))
        (new : CacheState K V) → WritesAdmitted rules equal_to key strategy old value calls answer new
        → List (K × V × Cause)
    truth_of_admitted value _ _ _ (WritesAdmitted.inserts_new mid calls inserts nothing evicts) =
        evictions calls
    truth_of_admitted value _ _ _
        (WritesAdmitted.overwrites place before item touched after calls new there takes evicts) =
        (item.key, item.value, Cause.Replaced) ∷ evictions calls
    truth_of_admitted value _ _ _
        (WritesAdmitted.inserts_over_ghost before after calls new inserts there evicts) =
        evictions calls
    truth_of_admitted value _ _ _
        (WritesAdmitted.inserts_over_loading before entry after calls new inserts there evicts) =
        evictions calls
    truth_of_admitted value _ _ _ (WritesAdmitted.gives_back replaces none) = []

    -- why each pair left that a write tells of
    abbrev pub truth_of : (value : V) (calls : List (HookCall K V)) (answer : Option (K × V))
        (new : CacheState K V) → Writes rules equal_to key strategy old value calls answer new
        → List (K × V × Cause)
    truth_of value _ _ _ (Writes.admitted first rest left answer new checks writes) =
        truth_of_admitted left rest answer new writes
    truth_of value _ _ _ (Writes.too_heavy first rest left answer new checks rejects) =
        truth_of_rejection equal_to key strategy old left rest answer new rejects

  -- What is told, and what may be so. It is the same, but what is told as a victim may be an item
  -- that a too heavy or lightened pair replaced, or, where it is told as a cold one, such a pair
  -- that was turned away.
  pub data MayMean : (K × V × Cause) → (K × V × Cause) → Type 0 where
    what_is_told : (pair : K × V × Cause) → MayMean pair pair
    hot_was_replaced : (key : K) (value : V)
        → MayMean (key, value, Cause.EvictedHot) (key, value, Cause.Replaced)
    cold_was_replaced : (key : K) (value : V)
        → MayMean (key, value, Cause.EvictedCold) (key, value, Cause.Replaced)
    cold_was_turned_away : (key : K) (value : V)
        → MayMean (key, value, Cause.EvictedCold) (key, value, Cause.TurnedAway)
