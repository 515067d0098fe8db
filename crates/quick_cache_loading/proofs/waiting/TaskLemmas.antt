-- What follows of an answer that is another.
use Rattle.std.proofs.Common.{◌≡◌, ℕ, List, false, refl}
use Rattle.quick_cache_loading.specs.declared.protocol.events.Answer.{Answer}
use Rattle.quick_cache_loading.specs.Tasks.{slots_after}
use Rattle.quick_cache_loading.specs.Waiters.{has_joined}
use Rattle.quick_cache_loading.specs.declared.waiting.tasks.Slot.{Slot}

-- an answer that hands nothing on wakes nobody
pub slots_after-other : {V : Type 0} (a : Answer V) (slots : List Slot)
    → ((n : ℕ) → a ≡ Answer.HandedTo n → ⊥) → slots_after a slots ≡ slots
slots_after-other (Answer.HandedTo n) slots other = absurd (other n refl)
slots_after-other Answer.Created slots other = refl
slots_after-other Answer.Joined slots other = refl
slots_after-other (Answer.Value v) slots other = refl
slots_after-other Answer.Guard slots other = refl
slots_after-other Answer.Waiting slots other = refl
slots_after-other Answer.TimedOut slots other = refl
slots_after-other Answer.GivenUp slots other = refl
slots_after-other Answer.Done slots other = refl
slots_after-other (Answer.Refused why) slots other = refl
slots_after-other Answer.NotNow slots other = refl

-- nobody joined by an answer that is another
pub joined-other : {V : Type 0} (a : Answer V) → (a ≡ Answer.Joined → ⊥) → has_joined a ≡ false
joined-other Answer.Joined other = absurd (other refl)
joined-other Answer.Created other = refl
joined-other (Answer.Value v) other = refl
joined-other Answer.Guard other = refl
joined-other Answer.Waiting other = refl
joined-other Answer.TimedOut other = refl
joined-other (Answer.HandedTo n) other = refl
joined-other Answer.GivenUp other = refl
joined-other Answer.Done other = refl
joined-other (Answer.Refused why) other = refl
joined-other Answer.NotNow other = refl
