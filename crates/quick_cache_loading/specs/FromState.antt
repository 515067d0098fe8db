-- What a call on a placeholder did to the state behind its lock.
use Rattle.std.specs.Prelude.{◌≡◌, ◌≢◌, ◌⊎◌, ◌==◌, ℕ, Bool, true, false, not, length, MatchBool, List, Option, Some, Result, Err}
use Rattle.quick_cache_loading.specs.Core.{held_count, waiters_of}
use Rattle.quick_cache_loading.specs.LoadingStep.{LoadingStep}
use Rattle.quick_cache_loading.specs.LettingGo.{LetsGo}
use Rattle.quick_cache_loading.specs.Waiters.{Polls, WaitingState, has_ended, poll_event}
use Rattle.quick_cache_loading.specs.Joining.{BeginsOrJoins}
use Rattle.quick_cache_loading.specs.declared.protocol.events.Event.{Event}
use Rattle.quick_cache_loading.specs.declared.protocol.events.Answer.{Answer}
use Rattle.quick_cache_loading.specs.declared.waiting.tokens.Place.{Place}
use Rattle.quick_cache_loading.specs.declared.waiting.tasks.Slot.{Slot}
use Rattle.quick_cache_loading.specs.declared.waiting.waited.Waited.{Waited}
use Rattle.quick_cache_loading.specs.declared.waiting.waited.Wants.{Wants}

-- There was such a state behind the lock, and the call made this one of it. Other threads use it,
-- too, so nobody knows which it was.
pub record FromState {K V : Type 0} (P : (old new : WaitingState K V) → Type 0) : Type 0 where
  pub old : WaitingState K V
  pub new : WaitingState K V
  pub holds : P old new

module _ {K V : Type 0} (shows : V → V → Type 0) (stands_for : K → Bool) (wants : Wants) where
  -- One comes to the state of this ticket. Where the state is of another, or the value has come and
  -- none is wanted, it looks in the shard again.
  pub record JoinsAt (ticket : ℕ) (is_over : Bool) (told : Result ℕ (Waited V))
      (old new : WaitingState K V) : Type 0 where
    pub elsewhere : old.ticket ≢ ticket → told ≡ Err Waited.Again
    pub ended : has_ended wants old.core.life ≡ true → told ≡ Err Waited.Again
    pub enters : old.ticket ≡ ticket → has_ended wants old.core.life ≡ false
        → BeginsOrJoins shows (stands_for old.key) old.next is_over old.core told new.core

  -- One who has this place looks at the state. Where the state is of another ticket, or the value
  -- has come and none is wanted, it looks in the shard again.
  pub record PollsAt (place : Place) (is_over : Bool) (told : Option (Waited V))
      (old new : WaitingState K V) : Type 0 where
    pub elsewhere : place.ticket ≢ old.ticket → told ≡ Some Waited.Again
    pub ended : place.ticket ≡ old.ticket → has_ended wants old.core.life ≡ true
        → told ≡ Some Waited.Again
    pub looks : place.ticket ≡ old.ticket → has_ended wants old.core.life ≡ false
        → Polls shows (stands_for old.key) old.core (poll_event place.number is_over) told new.core

-- the share or the key is of another state, or no guard is held
abbrev pub MayNotFill : {K V : Type 0} → (key : K) → (share : ℕ) → WaitingState K V → Type 0
MayNotFill key share old = (share ≢ old.ticket) ⊎ (key ≢ old.key) ⊎ (held_count old.core ≡ 0)

-- the guard of this share fills the state with the value, and it is told whether anyone waited
pub record FillsAt {K V : Type 0} (shows : V → V → Type 0) (share : ℕ) (value : V)
    (waited : Bool) (old new : WaitingState K V) : Type 0 where
  pub own : share ≡ old.ticket
  pub told : waited ≡ not (length (waiters_of old.core.life) == 0)
  pub step : LoadingStep shows old.core (Event.Fill value) Answer.Done new.core

-- A guard or a place of this ticket is let go by an event, and the placeholder leaves the shard
-- exactly where the life is given up. Another state's is nothing to it.
pub record LeavesBy {K V : Type 0} (ticket : ℕ) (e : Event V) (slots : List Slot)
    (leaves stays : Type 0) (old new : WaitingState K V) : Type 0 where
  pub ends : Bool
  pub own : ticket ≡ old.ticket → LetsGo e ends old.core slots new.core new.tasks
  pub other : ticket ≢ old.ticket → ends ≡ false
  pub shard : MatchBool ends leaves stays
