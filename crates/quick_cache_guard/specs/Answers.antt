-- What one who asks for a value is answered.
use Rattle.std.specs.Prelude.{◌≡◌, ◌⊎◌, ⊤, ℕ, Bool, true, false, Option, Some, None, Result, Ok, Err}
use Rattle.quick_cache_model.specs.declared.refusal.Refusal.{Refusal}
pub use Rattle.quick_cache_loading.specs.Waiters.{IsLoadRefusal}
use Rattle.quick_cache_loading.specs.FromState.{JoinsAt, FromState, PollsAt}
use Rattle.quick_cache_loading.specs.declared.waiting.tokens.Place.{Place}
use Rattle.quick_cache_loading.specs.declared.waiting.waited.Waited.{Waited}
use Rattle.quick_cache_loading.specs.declared.waiting.waited.Wants.{Wants}
use Rattle.quick_cache_guard.specs.declared.results.GuardResult.{GuardResult}

-- where the answer is a value, this is true of it
abbrev pub IfValue : {V G : Type 0} → GuardResult V G → (V → Type 0) → Type 0
IfValue (GuardResult.Value value) P = P value
IfValue _ P = ⊤

-- where it is a guard, which is seen as its key, this is true of it
abbrev pub IfGuard : {V G : Type 0} → GuardResult V G → (G → Type 0) → Type 0
IfGuard (GuardResult.Guard guard) P = P guard
IfGuard _ P = ⊤

-- what one answers who has a copy of the key and is told this; nothing where it has to look again
abbrev pub answer_of : {K V : Type 0} → K → Waited V → Option (GuardResult V K)
answer_of key (Waited.Value value) = Some (GuardResult.Value value)
answer_of key (Waited.Guard share) = Some (GuardResult.Guard key)
answer_of key (Waited.Refused refusal) = Some (GuardResult.Refused refusal)
answer_of key Waited.Timeout = Some GuardResult.Timeout
answer_of key Waited.Again = None

-- one came to the state of some placeholder, and was told this
abbrev pub ToldOnJoining : {K V : Type 0} → (shows : V → V → Type 0) → (stands_for : K → Bool) → Wants
    → (is_over : Bool) → Waited V → Type 0
ToldOnJoining shows stands_for wants is_over told =
    (ticket : ℕ) × FromState (JoinsAt shows stands_for wants ticket is_over (Err told))

-- it came to the state of some placeholder, or looked at one where it had a place, and was told this
abbrev pub WasTold : {K V : Type 0} → (shows : V → V → Type 0) → (stands_for : K → Bool) → Wants
    → (is_over : Bool) → Waited V → Type 0
WasTold shows stands_for wants is_over told = ToldOnJoining shows stands_for wants is_over told
    ⊎ ((place : Place) × FromState (PollsAt shows stands_for wants place is_over (Some told)))

-- so it was at some time of its waits
abbrev pub WasToldOnce : {K V : Type 0} → (shows : V → V → Type 0) → (stands_for : K → Bool)
    → Wants → Waited V → Type 0
WasToldOnce shows stands_for wants told =
    (is_over : Bool) × WasTold shows stands_for wants is_over told

-- What one is told at a placeholder, what some shard shows, and why one refuses, are the causes of
-- what one answers who asks for a value.
module _ {V S : Type 0} (WasTold : Waited V → Type 0) where
  -- the value was found, or it came to one who waited
  abbrev pub IsGivenSo : (shows : V → S → Type 0) → V → Type 0
  IsGivenSo shows value = ((shard : S) × shows value shard) ⊎ WasTold (Waited.Value value)

  -- memory was refused, or a shard or a placeholder refuses it so
  abbrev pub IsRefusedSo : (refuses : Refusal → S → Type 0) → Refusal → Type 0
  IsRefusedSo refuses refusal = (refusal ≡ Refusal.Memory) ⊎ ((shard : S) × refuses refusal shard)
      ⊎ WasTold (Waited.Refused refusal)

  module _ (shows : V → S → Type 0) (refuses : Refusal → S → Type 0) {G : Type 0} where
    -- one answers, or looks again where nothing is answered, only with its cause
    abbrev pub HasCause : Option (GuardResult V G) → Type 0
    HasCause None = WasTold Waited.Again
    HasCause (Some (GuardResult.Value value)) = IsGivenSo shows value
    HasCause (Some (GuardResult.Guard guard)) = ⊤
    HasCause (Some GuardResult.Timeout) = WasTold Waited.Timeout
    HasCause (Some (GuardResult.Refused refusal)) = IsRefusedSo refuses refusal

    -- the same of one who waits with no limit
    abbrev pub GivesSo : Result (Result V G) Refusal → Type 0
    GivesSo (Ok (Ok value)) = IsGivenSo shows value
    GivesSo (Ok (Err guard)) = ⊤
    GivesSo (Err refusal) = IsRefusedSo refuses refusal

-- what a future that waits with no limit gives, unless it has to look again
abbrev pub output_of : {V G : Type 0} → Option (GuardResult V G)
    → Option (Result (Result V G) Refusal)
output_of (Some (GuardResult.Value value)) = Some (Ok (Ok value))
output_of (Some (GuardResult.Guard guard)) = Some (Ok (Err guard))
output_of (Some (GuardResult.Refused refusal)) = Some (Err refusal)
output_of (Some GuardResult.Timeout) = None
output_of None = None

-- where a future gives a value, the one is true of it; where it gives a guard, the other
abbrev pub IfGiven : {V G : Type 0} → (V → Type 0) → (G → Type 0)
    → Result (Result V G) Refusal → Type 0
IfGiven P R (Ok (Ok value)) = P value
IfGiven P R (Ok (Err guard)) = R guard
IfGiven P R (Err refusal) = ⊤

-- it is refused only for what a load may be refused for
abbrev pub RefusesAsLoad : {V G : Type 0} → GuardResult V G → Type 0
RefusesAsLoad (GuardResult.Refused refusal) = IsLoadRefusal refusal
RefusesAsLoad _ = ⊤

-- One who asks for a value is answered one of which the first is true, a guard, which is seen as its
-- key, of which the second is, or a refusal only for what a load may be refused for.
abbrev pub IsAnswered : {V G : Type 0} → (V → Type 0) → (G → Type 0) → GuardResult V G → Type 0
IsAnswered P R (GuardResult.Value value) = P value
IsAnswered P R (GuardResult.Guard guard) = R guard
IsAnswered P R (GuardResult.Refused refusal) = IsLoadRefusal refusal
IsAnswered P R GuardResult.Timeout = ⊤

-- the time was over
abbrev pub is_timeout : {V G : Type 0} → GuardResult V G → Bool
is_timeout GuardResult.Timeout = true
is_timeout _ = false

-- one is refused
abbrev pub is_refused : {V G : Type 0} → GuardResult V G → Bool
is_refused (GuardResult.Refused refusal) = true
is_refused _ = false

-- a future is refused only for what a load may be refused for
abbrev pub IsRefusedAsLoad : {V G : Type 0} → Result (Result V G) Refusal → Type 0
IsRefusedAsLoad (Ok given) = ⊤
IsRefusedAsLoad (Err refusal) = IsLoadRefusal refusal
