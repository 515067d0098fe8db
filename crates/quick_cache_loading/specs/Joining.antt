-- Those who come to a placeholder.
use Rattle.std.specs.Prelude.{◌≡◌, ℕ, Bool, true, false, Some, Result, Ok, Err}
use Rattle.quick_cache_model.specs.declared.refusal.Refusal.{Refusal}
use Rattle.quick_cache_loading.specs.LoadingStep.{LoadingStep}
use Rattle.quick_cache_loading.specs.Core.{CoreState}
use Rattle.quick_cache_loading.specs.declared.protocol.events.Event.{Event}
use Rattle.quick_cache_loading.specs.declared.protocol.events.Answer.{Answer}
use Rattle.quick_cache_loading.specs.declared.waiting.waited.Waited.{Waited}
use Rattle.quick_cache_loading.specs.Waiters.{IsGuard, value_or_again}

-- What one who came to wait is told of the core's answer: its number, or the value; and where
-- neither is of use that it looks in the shard again.
abbrev pub TellsJoiner : {V : Type 0} → Bool → ℕ → Answer V → Result ℕ (Waited V) → Type 0
TellsJoiner stands n Answer.Joined told = told ≡ Ok n
TellsJoiner stands n (Answer.Value v) told = told ≡ Err (value_or_again stands v)
TellsJoiner stands n (Answer.Refused why) told = told ≡ Err (Waited.Refused Refusal.Memory)
TellsJoiner stands n _ told = told ≡ Err Waited.Again

-- what one whose time is over is told of a value: it, or that its time is over exactly where the
-- query does not stand for the key
abbrev pub value_or_timeout : {V : Type 0} → Bool → V → Waited V
value_or_timeout true value = Waited.Value value
value_or_timeout false value = Waited.Timeout

-- What one who came when its time was over is told of the core's answer: the value, or that its
-- time is over. A guard that is on its way to its number would be its own.
abbrev pub TellsOnce : {V : Type 0} → Bool → Answer V → Waited V → Type 0
TellsOnce stands (Answer.Value v) told = told ≡ value_or_timeout stands v
TellsOnce stands Answer.Created told = IsGuard (Some told)
TellsOnce stands Answer.Guard told = IsGuard (Some told)
TellsOnce stands (Answer.Refused why) told = told ≡ Waited.Refused Refusal.Memory
TellsOnce stands _ told = told ≡ Waited.Timeout

module _ {V : Type 0} (shows : V → V → Type 0) (stands : Bool) where
  -- it looks once, by this number, and is told so
  pub record PollsAtOnce (old : CoreState V) (n : ℕ) (told : Waited V) (new : CoreState V)
      : Type 0 where
    pub answer : Answer V
    pub step : LoadingStep shows old (Event.TimeOut n) answer new
    pub tells : TellsOnce stands answer told

  -- One comes. A life begins, and it gets the share. Else the life goes on, and it joins by this
  -- number, or looks once where its time is over; or there is no room for its slot, or no number.
  pub data BeginsOrJoins (n : ℕ) (is_over : Bool) (old : CoreState V) : Result ℕ (Waited V)
      → CoreState V → Type 0 where
    begins : (share : ℕ) (new : CoreState V) → LoadingStep shows old Event.Create Answer.Created new
        → BeginsOrJoins n is_over old (Err (Waited.Guard share)) new
    joins : (a : Answer V) (told : Result ℕ (Waited V)) (new : CoreState V)
        → is_over ≡ false → LoadingStep shows old Event.Create Answer.NotNow old
        → LoadingStep shows old (Event.Join n) a new → TellsJoiner stands n a told
        → BeginsOrJoins n is_over old told new
    polls_at_once : (told : Waited V) (new : CoreState V) → is_over ≡ true
        → LoadingStep shows old Event.Create Answer.NotNow old → PollsAtOnce old n told new
        → BeginsOrJoins n is_over old (Err told) new
    lacks_room : is_over ≡ false → LoadingStep shows old Event.Create Answer.NotNow old
        → BeginsOrJoins n is_over old (Err (Waited.Refused Refusal.Memory)) old
    all_spent : n ≡ 18446744073709551615 → is_over ≡ false
        → LoadingStep shows old Event.Create Answer.NotNow old
        → BeginsOrJoins n is_over old (Err (Waited.Refused Refusal.TicketsSpent)) old
