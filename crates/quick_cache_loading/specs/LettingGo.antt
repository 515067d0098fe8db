-- A guard or a place that is let go.
use Rattle.std.specs.Prelude.{◌≡◌, ◌≢◌, ℕ, Bool, false, List, [], Result, Ok, Err}
use Rattle.quick_cache_loading.specs.Core.{CoreState, waiters_of}
use Rattle.quick_cache_loading.specs.LoadingStep.{LoadingStep}
use Rattle.quick_cache_loading.specs.LoadingLaws.{ShowsNothing}
use Rattle.quick_cache_loading.specs.Tasks.{slots_after}
use Rattle.quick_cache_loading.specs.Waiters.{WaitingState, ends_life}
use Rattle.quick_cache_loading.specs.declared.protocol.events.Event.{Event}
use Rattle.quick_cache_loading.specs.declared.protocol.events.Answer.{Answer}
use Rattle.quick_cache_loading.specs.declared.waiting.tasks.Slot.{Slot}

-- By this event a guard or a place is let go. The task of the one to whom the guard is handed is
-- woken, and no other; and it is told exactly whether the life was given up.
pub record LetsGo {V : Type 0} (e : Event V) (ends : Bool) (old : CoreState V) (slots : List Slot)
    (new : CoreState V) (left : List Slot) : Type 0 where
  pub answer : Answer V
  pub step : LoadingStep ShowsNothing old e answer new
  pub gives_up : ends ≡ ends_life answer
  pub woken : left ≡ slots_after answer slots

-- The guard of this share is handed on, and the life goes on; a share of another placeholder ends.
-- Where nobody waits the share comes back.
abbrev pub HandsOn : {K V : Type 0} → (share : ℕ) → (old new : WaitingState K V)
    → Result (Unit {0}) ℕ → Type 0
HandsOn share old new (Ok done) =
    (share ≡ old.ticket → LetsGo Event.Abandon false old.core old.tasks new.core new.tasks)
    × (share ≢ old.ticket → new ≡ old)
HandsOn share old new (Err back) =
    (back ≡ share) × (waiters_of old.core.life ≡ []) × (new ≡ old)
