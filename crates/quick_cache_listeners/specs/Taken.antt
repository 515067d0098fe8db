-- Pairs that the caller took out of a cache and tells of.
use Rattle.std.specs.Prelude.{◌≡◌, ℕ, List, Option}
use Rattle.std.specs.Iterator.{Drains}
use Rattle.std.specs.List.{FoldsTo}
use Rattle.quick_cache_listeners.specs.declared.causes.cause.Cause.{Cause}
use Rattle.quick_cache_listeners.specs.declared.causes.counted.Counts.{Counts}
use Rattle.quick_cache_listeners.specs.declared.causes.listener.Request.{Request}
use Rattle.quick_cache_listeners.specs.Tallies.{counted}

module _ {K V S : Type 0} where
  -- The iterator gave these pairs and no more, and the lifecycle was told each of them with that
  -- cause, in their order.
  pub record TellsEach {I : Type 0} (gives : I → Option (K × V) → I → Type 0) (pairs : I)
      (tells : S → K → V → Cause → S → Type 0) (cause : Cause) (old new : S) : Type 0 where
    pub came : List (K × V)
    pub drains : Drains gives pairs came
    pub told : FoldsTo (λ before pair after. tells before pair.0 pair.1 cause after) old came new

  -- the listener or the inner lifecycle is told the pair, and what the last hook was stays
  abbrev pub TellsPairTaken : (S → K → V → Cause → S → Type 0) → Request S → K → V → Cause → Request S
      → Type 0
  TellsPairTaken tells old key value cause new =
      tells old.state key value cause new.state × (new.stage ≡ old.stage)

  -- a pair of that weight is counted by its cause, and the inner lifecycle is told
  abbrev pub CountsTaken : (S → K → V → Cause → S → Type 0) → (K → V → ℕ) → Request (Counts S) → K
      → V → Cause → Request (Counts S) → Type 0
  CountsTaken inner weight_of old key value cause new =
      inner old.state.state key value cause new.state.state × (new.stage ≡ old.stage)
      × (new.state.tallies ≡ counted cause (weight_of key value) old.state.tallies)
