-- What is seen of a placeholder's locked state.
use Rattle.std.specs.Prelude.{◌≡◌, ℕ, ◌<◌, All, ⊤, Bool, true, false, List, Option, Some, None, Result, Ok, Err}
use Rattle.quick_cache_model.specs.declared.refusal.Refusal.{Refusal}
use Rattle.quick_cache_loading.specs.LoadingStep.{LoadingStep}
use Rattle.quick_cache_loading.specs.declared.protocol.events.Event.{Event}
use Rattle.quick_cache_loading.specs.Core.{CoreState, Life, is_filled, numbers_in, waiters_of}
use Rattle.quick_cache_loading.specs.declared.protocol.events.Answer.{Answer}
use Rattle.quick_cache_loading.specs.declared.waiting.waited.Waited.{Waited}
use Rattle.quick_cache_loading.specs.declared.waiting.waited.Wants.{Wants}
use Rattle.quick_cache_loading.specs.declared.waiting.tasks.Slot.{Slot}
use Rattle.quick_cache_loading.specs.declared.waiting.tokens.Place.{Place}
use Rattle.quick_cache_loading.specs.Tasks.{numbers_of}

-- its ticket, its own copy of the key, its life, the tasks that wait, and its counter
pub record WaitingState (K V : Type 0) : Type 0 where
  pub ticket : ℕ
  pub key : K
  pub core : CoreState V
  pub tasks : List Slot
  -- the number of the next one who comes to wait
  pub next : ℕ

-- its life and its slots may have changed, and nothing else
abbrev pub KeepsKeyAndNext : {K V : Type 0} → (old new : WaitingState K V) → Type 0
KeepsKeyAndNext old new = new ≡ record old { core = new.core; tasks = new.tasks }

-- and its counter, too
abbrev pub KeepsKey : {K V : Type 0} → (old new : WaitingState K V) → Type 0
KeepsKey old new = new ≡ record old { core = new.core; tasks = new.tasks; next = new.next }

-- Who waits has a slot, in the order in which they came, and nobody else has one. All numbers are
-- below that of the next one who comes.
pub record HaveSlots {V : Type 0} (slots : List Slot) (next : ℕ) (life : Life V) : Type 0 where
  pub each : numbers_of slots ≡ waiters_of life
  pub below : All (λ n. n < next) (numbers_in life)

-- the life is given up by this answer, so that its placeholder is to leave the shard
abbrev pub ends_life : {V : Type 0} → Answer V → Bool
ends_life Answer.GivenUp = true
ends_life _ = false

-- one joined, and waits from now on
abbrev pub has_joined : {V : Type 0} → Answer V → Bool
has_joined Answer.Joined = true
has_joined _ = false

-- one goes on waiting
abbrev pub waits_on : {V : Type 0} → Answer V → Bool
waits_on Answer.Waiting = true
waits_on _ = false

-- what a waiter that looks does: it takes what has come, for the last time or not
abbrev pub poll_event : {V : Type 0} → ℕ → Bool → Event V
poll_event waiter true = Event.TimeOut waiter
poll_event waiter false = Event.Take waiter

-- it is told that it has the guard
abbrev pub IsGuard : {V : Type 0} → Option (Waited V) → Type 0
IsGuard (Some (Waited.Guard share)) = ⊤
IsGuard _ = ⊥

-- what one is told of a value: it, or that one looks again exactly where the query does not stand
-- for the key
abbrev pub value_or_again : {V : Type 0} → Bool → V → Waited V
value_or_again true value = Waited.Value value
value_or_again false value = Waited.Again

-- What one who waits is told of the core's answer: the value, or that it looks again where that is
-- of another key; and nothing while it goes on waiting. The core refuses for want of memory alone.
abbrev pub Tells : {V : Type 0} → Bool → Answer V → Option (Waited V) → Type 0
Tells stands (Answer.Value v) told = told ≡ Some (value_or_again stands v)
Tells stands Answer.Created told = IsGuard told
Tells stands Answer.Guard told = IsGuard told
Tells stands Answer.Waiting told = told ≡ None
Tells stands Answer.TimedOut told = told ≡ Some Waited.Timeout
Tells stands (Answer.Refused why) told = told ≡ Some (Waited.Refused Refusal.Memory)
Tells stands _ told = told ≡ Some Waited.Again

-- it looks: the core makes the event, and it is told so
pub record Polls {V : Type 0} (shows : V → V → Type 0) (stands : Bool) (old : CoreState V)
    (e : Event V) (told : Option (Waited V)) (new : CoreState V) : Type 0 where
  pub answer : Answer V
  pub step : LoadingStep shows old e answer new
  pub tells : Tells stands answer told

-- what loading may be refused for: memory, a slot or a ticket
abbrev pub IsLoadRefusal : Refusal → Type 0
IsLoadRefusal Refusal.Memory = ⊤
IsLoadRefusal Refusal.SlotsFull = ⊤
IsLoadRefusal Refusal.TicketsSpent = ⊤
IsLoadRefusal Refusal.Finished = ⊥

-- One is told a value of which this is true, a share of this ticket, or a refusal only where loading
-- may be refused so.
abbrev pub IsTold : {V : Type 0} → ℕ → (V → Type 0) → Waited V → Type 0
IsTold ticket P (Waited.Value value) = P value
IsTold ticket P (Waited.Guard share) = share ≡ ticket
IsTold ticket P (Waited.Refused why) = IsLoadRefusal why
IsTold ticket P Waited.Timeout = ⊤
IsTold ticket P Waited.Again = ⊤

-- one is told that its time is over
abbrev pub is_timeout : {V : Type 0} → Waited V → Bool
is_timeout Waited.Timeout = true
is_timeout _ = false

-- the core answers that a waiter's time is over
abbrev pub is_timed_out : {V : Type 0} → Answer V → Bool
is_timed_out Answer.TimedOut = true
is_timed_out _ = false

-- what one is told, and nothing where it keeps its place
abbrev pub told_or_none : {A B : Type 0} → Result A B → Option A
told_or_none (Ok told) = Some told
told_or_none (Err place) = None

-- a place, by its number
abbrev pub by_number : {B : Type 0} → Result Place B → Result ℕ B
by_number (Ok place) = Ok place.number
by_number (Err told) = Err told

-- the load has ended for one who wants no value: the life is filled
abbrev pub has_ended : {V : Type 0} → Wants → Life V → Bool
has_ended Wants.Value life = false
has_ended Wants.End life = is_filled life

-- of a value that one is told this is true; one who wants none is told of none
abbrev pub IsWanted : {V : Type 0} → Wants → (V → Type 0) → (V → Type 0)
IsWanted Wants.Value P = P
IsWanted Wants.End P = λ value. ⊥

-- one is refused
abbrev pub is_refused : {V : Type 0} → Waited V → Bool
is_refused (Waited.Refused why) = true
is_refused _ = false
