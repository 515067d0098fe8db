-- What a contract sees of a future that waits for a value, and what a poll does.
use Rattle.std.specs.Prelude.{◌≡◌, ◌⊎◌, ⊤, ℕ, Bool, true, false, Option, Some, None, IsSome, IsSomeAnd, Result, Err}
use Rattle.futures.specs.Poll.{IfReady, OnPending}
use Rattle.futures.specs.Task.{Covers, Keeps}
use Rattle.futures.specs.declared.task.Poll.{Poll}
use Rattle.futures.specs.declared.task.context.Context.{Context}
use Rattle.quick_cache_loading.specs.Fitting.{FitsIfClonesDo}
use Rattle.quick_cache_model.specs.declared.refusal.Refusal.{Refusal}
use Rattle.quick_cache_loading.specs.declared.waiting.waited.Waited.{Waited}
use Rattle.quick_cache_loading.specs.declared.waiting.waited.Wants.{Wants}
use Rattle.quick_cache_guard.specs.Answers.{GivesSo, IfGiven, IsRefusedAsLoad, WasTold}
use Rattle.quick_cache_guard.specs.declared.future.Stage.{Stage}

-- its query, once it waits the source by which its placeholder wakes it, and whether it has answered
pub record Joining (Q : Type 0) : Type 0 where
  pub query : Q
  pub source : Option ℕ
  pub is_finished : Bool

module _ {W : Type 0} where
  -- by which source it is woken, where it waits
  abbrev pub source_of : Stage W → (W → Option ℕ) → Option ℕ
  source_of Stage.Looks source = None
  source_of (Stage.Waits waits) source = source waits
  source_of Stage.Finished source = None

  -- of what it waits by this is true
  abbrev pub IfWaits : Stage W → (W → Type 0) → Type 0
  IfWaits Stage.Looks P = ⊤
  IfWaits (Stage.Waits waits) P = P waits
  IfWaits Stage.Finished P = ⊤

  -- it has answered
  abbrev pub has_answered : Stage W → Bool
  has_answered Stage.Looks = false
  has_answered (Stage.Waits waits) = false
  has_answered Stage.Finished = true

-- this is the source by which it is woken
abbrev pub IsSource : Option ℕ → ℕ → Type 0
IsSource source s = IsSomeAnd source (λ own. s ≡ own)

-- A future answers once. Before it has answered it is refused only as a load is, and afterwards each
-- poll is refused by this answer.
pub record AnswersOnce {O : Type 0} (IsRefusedAsLoad : O → Type 0) (finished : O) (before : Bool)
    (polled : Poll O) (after : Bool) : Type 0 where
  pub first : before ≡ false → IfReady polled IsRefusedAsLoad
  pub again : before ≡ true → polled ≡ Poll.Ready finished
  pub ends : IfReady polled (λ _. after ≡ true)
  pub goes_on : OnPending polled (after ≡ before)

-- A pending poll has its place, or has asked for another, and has registered where it waits.
pub record Registers {O : Type 0} (HasPlace : Type 0) (needs : ℕ → Type 0) (polled : Poll O)
    (old new : Context) : Type 0 where
  pub place : OnPending polled ((new.is_woken ≡ true) ⊎ HasPlace)
  pub registered : OnPending polled (Covers new needs)
  pub kept : Keeps old new

-- so answers a future of a value, with one query
abbrev pub GivesOnce : {V E : Type 0} → (before : Bool) → Poll (Result (Result V E) Refusal)
    → (after : Bool) → Type 0
GivesOnce before polled after =
    AnswersOnce IsRefusedAsLoad (Err Refusal.Finished) before polled after

-- so registers one that waits at the placeholder of this source
abbrev pub RegistersAt : {O : Type 0} → Option ℕ → Poll O → (old new : Context) → Type 0
RegistersAt source polled old new =
    Registers (IsSome source) (IsSource source) polled old new

-- a value that fits a key that the query stands for, or the guard of a key that it becomes
abbrev pub GivesFor : {K V : Type 0} (fits : K → V → Type 0) (is_clone : V → V → Type 0)
    (stands_for : K → Bool) (becomes : K → Type 0) → Result (Result V K) Refusal → Type 0
GivesFor fits is_clone stands_for becomes =
    IfGiven (FitsIfClonesDo fits is_clone stands_for) becomes

-- What a poll does that comes to an answer, or waits: what it gives, with its cause; that it answers
-- once; where it is woken; and that whoever stands nowhere was told to look again.
pub record PollsFor {Q K V S : Type 0} (fits : K → V → Type 0) (is_clone : V → V → Type 0)
    (stands_for : K → Bool) (becomes : K → Type 0) (shows : V → S → Type 0)
    (refuses : Refusal → S → Type 0) (old : Joining Q) (polled : Poll (Result (Result V K) Refusal))
    (new : Joining Q) (before after : Context) : Type 0 where
  pub gives : IfReady polled (GivesFor fits is_clone stands_for becomes)
  pub once : AnswersOnce IsRefusedAsLoad (Err Refusal.Finished) false polled new.is_finished
  pub registers : Registers (IsSome new.source) (IsSource new.source) polled before after
  pub cause : IfReady polled
      (GivesSo (WasTold is_clone stands_for Wants.Value false) shows refuses)
  pub again : OnPending polled (IsSome new.source
      ⊎ WasTold is_clone stands_for Wants.Value false Waited.Again)
  pub query : new.query ≡ old.query
