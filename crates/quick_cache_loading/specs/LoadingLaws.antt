-- The words of the laws that each event of the loading core keeps: what an answer gives, shows and
-- lets go.
use Rattle.std.specs.Prelude.{ℕ, ◌≡◌, ◌+◌, ◌==◌, ◌++◌, ◌∷◌, Bool, true, false, not, ◌&&◌, ◌||◌, if◌then◌else◌, Option, Some, None, []}
use Rattle.quick_cache_loading.specs.Core.{CoreState, handed_count, held_count, is_loading, waiters_of, waits}
use Rattle.quick_cache_loading.specs.declared.protocol.events.Event.{Event}
use Rattle.quick_cache_loading.specs.declared.protocol.events.Answer.{Answer}

-- the answer is `NotNow`
abbrev pub is_not_now : {V : Type 0} → Answer V → Bool
is_not_now Answer.NotNow = true
is_not_now _ = false

-- the answer only tells, and changes nothing
abbrev pub only_tells : {V : Type 0} → Answer V → Bool
only_tells (Answer.Value v) = true
only_tells Answer.Waiting = true
only_tells (Answer.Refused why) = true
only_tells Answer.NotNow = true
only_tells _ = false

-- the guards that an answer gives
abbrev pub given_by : {V : Type 0} → Answer V → ℕ
given_by Answer.Created = 1
given_by Answer.Guard = 1
given_by _ = 0

-- the most guards that the answers to an event give: none for Join, Fill, Abandon, Cancel and Leave
abbrev pub most_given : {V : Type 0} → Event V → ℕ
most_given Event.Create = 1
most_given (Event.Take n) = 1
most_given (Event.TimeOut n) = 1
most_given _ = 0

-- 1 for an answer other than `NotNow`
abbrev pub done_by : {V : Type 0} → Answer V → ℕ
done_by Answer.NotNow = 0
done_by _ = 1

-- the most guards that an event takes back: none but by Fill and Abandon
abbrev pub most_taken : {V : Type 0} → Event V → ℕ
most_taken (Event.Fill v) = 1
most_taken Event.Abandon = 1
most_taken _ = 0

-- the guards that an event takes back: one by a Fill or an Abandon that was not answered `NotNow`
abbrev pub taken_by : {V : Type 0} → Event V → Answer V → ℕ
taken_by (Event.Fill v) a = done_by a
taken_by Event.Abandon a = done_by a
taken_by _ a = 0

-- the value that an answer shows
abbrev pub shown_by : {V : Type 0} → Answer V → Option V
shown_by (Answer.Value v) = Some v
shown_by _ = None

-- a value is known, and this one may be shown for it
abbrev pub MayShow : {V : Type 0} → (V → V → Type 0) → Option V → V → Type 0
MayShow shows None shown = ⊥
MayShow shows (Some value) shown = shows value shown

-- of no value is another shown
abbrev pub ShowsNothing : {V : Type 0} → V → V → Type 0
ShowsNothing value shown = ⊥

-- the value of the life after an event: a fill gives it, a new life has none, and nothing else
-- changes it
abbrev pub value_after : {V : Type 0} → Option V → Event V → Answer V → Option V
value_after known (Event.Fill v) Answer.Done = Some v
value_after known Event.Create Answer.Created = None
value_after known e a = known

-- whether the life is given up after an answer: it ends by `GivenUp`, begins by `Created`, and else
-- stays as it was
abbrev pub given_up_after : {V : Type 0} → Bool → Answer V → Bool
given_up_after before Answer.GivenUp = true
given_up_after before Answer.Created = false
given_up_after before _ = before

-- the waiter is let go: it is handed the guard, times out or cancels, or the fill comes
abbrev pub lets_go : {V : Type 0} → ℕ → Event V → Answer V → Bool
lets_go n Event.Abandon (Answer.HandedTo m) = m == n
lets_go n (Event.Cancel k) (Answer.HandedTo m) = m == n
lets_go n (Event.TimeOut m) Answer.TimedOut = m == n
lets_go n (Event.Cancel m) Answer.Done = m == n
lets_go n (Event.Fill v) Answer.Done = true
lets_go n e a = false

-- the waiter is answered that it joined
abbrev pub joins_as : {V : Type 0} → ℕ → Event V → Answer V → Bool
joins_as n (Event.Join m) Answer.Joined = m == n
joins_as n e a = false

-- whether the waiter waits after an event, by what it did before: it does once it has joined, and
-- until it is let go
abbrev pub waits_after : {V : Type 0} → ℕ → Bool → Event V → Answer V → Bool
waits_after n before e a = (before || joins_as n e a) && not (lets_go n e a)

-- while it loads, a life has one guard, which is held or on its way, and else none
abbrev pub HasOneGuard : {V : Type 0} → CoreState V → Type 0
HasOneGuard core = held_count core + handed_count core ≡ (if is_loading core.life then 1 else 0)

-- one to whom the guard is handed is the waiter that was added last
abbrev pub HandsToLast : {V : Type 0} → Answer V → (old new : CoreState V) → Type 0
HandsToLast answer old new = (m : ℕ) → answer ≡ Answer.HandedTo m
    → waiters_of old.life ≡ waiters_of new.life ++ m ∷ []

-- who waits goes on waiting until it is let go
abbrev pub KeepsWaiters : {V : Type 0} → Event V → Answer V → (old new : CoreState V) → Type 0
KeepsWaiters event answer old new = (n : ℕ) → waits n old ≡ true
    → lets_go n event answer ≡ false → waits n new ≡ true
