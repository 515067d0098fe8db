-- The slots of those who wait, with the wakers of tasks.
use Rattle.std.specs.Prelude.{◌≡◌, ◌==◌, ◌++◌, ◌∷◌, not, ℕ, Bool, true, false, List, [], map, None, Any, IsSomeAnd, Result, Ok, Err}
use Rattle.std.specs.List.{filter}
use Rattle.futures.specs.Task.{Wakes}
use Rattle.futures.specs.declared.task.context.Context.{Context}
use Rattle.quick_cache_loading.specs.declared.protocol.events.Answer.{Answer}
use Rattle.quick_cache_loading.specs.declared.waiting.tasks.Slot.{Slot}
use Rattle.quick_cache_loading.specs.Waiting.{has}

-- the waiter has a slot with a waker of the context's task
abbrev pub HasWaker : ℕ → Context → List Slot → Type 0
HasWaker waiter cx slots =
    Any (λ slot. (slot.waiter ≡ waiter) × IsSomeAnd slot.waker (λ waker. Wakes waker cx)) slots

-- the slots once this waiter's task is woken: those of the others
abbrev pub slots_of_others : ℕ → List Slot → List Slot
slots_of_others waiter slots = filter (λ slot. not (slot.waiter == waiter)) slots

-- the slots after an answer: one to whom the guard is handed is woken, and nobody else
abbrev pub slots_after : {V : Type 0} → Answer V → List Slot → List Slot
slots_after (Answer.HandedTo waiter) slots = slots_of_others waiter slots
slots_after _ slots = slots

-- the slots after a fill: all are woken by it, and none where it was refused
abbrev pub slots_after_fill : {A B : Type 0} → Result A B → List Slot → List Slot
slots_after_fill (Ok done) slots = []
slots_after_fill (Err back) slots = slots

-- the numbers of those who have a slot
abbrev pub numbers_of : List Slot → List ℕ
numbers_of slots = map (λ slot. slot.waiter) slots

-- the waiter has a slot
abbrev pub has_slot : ℕ → List Slot → Bool
has_slot waiter slots = has waiter (numbers_of slots)

-- the slots once one has looked: it has none where it looked for the last time
abbrev pub slots_after_poll : Bool → ℕ → List Slot → List Slot
slots_after_poll true waiter slots = slots_of_others waiter slots
slots_after_poll false waiter slots = slots

-- the slots with one more, which has no waker yet
abbrev pub with_slot : ℕ → List Slot → List Slot
with_slot waiter slots = slots ++ record { waiter = waiter; waker = None } ∷ []
