-- What a contract sees of a future that acts on an entry.
use Rattle.std.specs.Prelude.{◌≡◌, ◌⊎◌, ⊤, ℕ, Bool, false, Option, IsSome}
use denote.Ref.{Bor, MutBor}
use denote.Param.Members.{Once}
use Rattle.quick_cache_loading.specs.Fitting.{FitsQuery}
use Rattle.quick_cache_model.specs.declared.calls.entry.EntryAction.{EntryAction}
use Rattle.futures.specs.Poll.{IfReady, OnPending}
use Rattle.futures.specs.declared.task.Poll.{Poll}
use Rattle.futures.specs.declared.task.context.Context.{Context}
use Rattle.quick_cache_model.specs.declared.refusal.Refusal.{Refusal}
use Rattle.quick_cache_loading.specs.declared.waiting.waited.Waited.{Waited}
use Rattle.quick_cache_loading.specs.declared.waiting.waited.Wants.{Wants}
use Rattle.quick_cache_guard.specs.Acts.{LeavesHeld, MayTell}
use Rattle.quick_cache_guard.specs.Answers.{WasTold}
use Rattle.quick_cache_guard.specs.Entries.{AnswersAsChosen, HasEntryCause, IsRefusedAsLoad}
use Rattle.quick_cache_guard.specs.Futures.{AnswersOnce, RegistersAt}
use Rattle.quick_cache_guard.specs.declared.results.EntryResult.{EntryResult}

-- its query, once it waits the source by which the placeholder of another's load wakes it, its
-- callback until that is called, and whether it has answered
pub record EntryState (Q F : Type 0) : Type 0 where
  pub query : Q
  pub source : Option ℕ
  pub callback : Option F
  pub is_finished : Bool

-- What one answers who has no time limit: of a value that it gives back the first is true, of what
-- the callback told the second, and of a guard, which is seen as its key, the third. It is never
-- too late.
abbrev pub IfActed : {T K V G : Type 0} → (V → Type 0) → (T → Type 0) → (G → Type 0)
    → EntryResult T K V G → Type 0
IfActed IsBack IsTold IsGuard (EntryResult.Retained told) = IsTold told
IfActed IsBack IsTold IsGuard (EntryResult.Removed key value) = IsBack value
IfActed IsBack IsTold IsGuard (EntryResult.Replaced guard value) = IsGuard guard × IsBack value
IfActed IsBack IsTold IsGuard (EntryResult.Vacant guard) = IsGuard guard
IfActed IsBack IsTold IsGuard EntryResult.Timeout = ⊥
IfActed IsBack IsTold IsGuard (EntryResult.Refused refusal) = ⊤

-- A value that is given back fits a key that the query stands for, what is told the callback that is
-- held told of such a value, and a guard is for a key that the query becomes.
abbrev pub GivesEntry : {F K V T : Type 0}
    (calls : Once F (Bor K × (MutBor V × Unit {0})) (EntryAction T × (MutBor V × Unit {0})))
    (fits : K → V → Type 0) (stands_for : K → Bool) (becomes : K → Type 0) → (held : Option F)
    → EntryResult T K V K → Type 0
GivesEntry calls fits stands_for becomes held = IfActed (λ value. FitsQuery fits stands_for value)
    (λ told. MayTell (LeavesHeld calls held) fits stands_for told) becomes

-- What a poll does that acts, or waits: what it gives, by the callback's one call, and with its cause;
-- that it answers once; where it is woken; and that whoever stands nowhere was told to look again.
pub record PollsEntry {Q F K V T S : Type 0}
    (calls : Once F (Bor K × (MutBor V × Unit {0})) (EntryAction T × (MutBor V × Unit {0})))
    (fits : K → V → Type 0) (is_clone : V → V → Type 0) (stands_for : K → Bool)
    (becomes : K → Type 0) (refuses : Refusal → S → Type 0) (old : EntryState Q F)
    (polled : Poll (EntryResult T K V K)) (new : EntryState Q F) (before after : Context)
    : Type 0 where
  pub gives : IfReady polled (GivesEntry calls fits stands_for becomes old.callback)
  pub chosen : IfReady polled (AnswersAsChosen (LeavesHeld calls old.callback) fits stands_for
      (new.callback ≡ old.callback))
  pub cause : IfReady polled
      (HasEntryCause (WasTold is_clone stands_for Wants.End false) refuses)
  pub once : AnswersOnce IsRefusedAsLoad (EntryResult.Refused Refusal.Finished) false polled
      new.is_finished
  pub registers : RegistersAt new.source polled before after
  pub again : OnPending polled (IsSome new.source
      ⊎ WasTold is_clone stands_for Wants.End false Waited.Again)
  pub query : new.query ≡ old.query
  pub uncalled : OnPending polled (new.callback ≡ old.callback)
