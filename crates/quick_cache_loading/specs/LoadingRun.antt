-- Schedules: the events of all parties, one at a time.
use Rattle.std.specs.Prelude.{◌≡◌, ℕ, ◌+◌, Bool, true, false, List, [], ◌∷◌, Option, IfSome}
use Rattle.quick_cache_loading.specs.Core.{CoreState}
use Rattle.quick_cache_loading.specs.LoadingStep.{LoadingStep}
use Rattle.quick_cache_loading.specs.LoadingLaws.{given_by, taken_by, shown_by, MayShow, value_after, given_up_after, waits_after}
use Rattle.quick_cache_loading.specs.declared.protocol.events.Event.{Event}
use Rattle.quick_cache_loading.specs.declared.protocol.events.Answer.{Answer}

-- A schedule: each event is a step, and has its own answer.
abbrev pub LoadingRun : {V : Type 0} → (V → V → Type 0)
    → CoreState V → List (Event V) → List (Answer V) → CoreState V → Type 0
LoadingRun shows old [] [] new = new ≡ old
LoadingRun shows old [] (a ∷ answers) new = ⊥
LoadingRun shows old (e ∷ events) [] new = ⊥
LoadingRun {V} shows old (e ∷ events) (a ∷ answers) new =
    (mid : CoreState V) × LoadingStep shows old e a mid × LoadingRun shows mid events answers new

-- the guards that a schedule's answers give: one by each Created and each Guard
abbrev pub guards_given : {V : Type 0} → List (Answer V) → ℕ
guards_given [] = 0
guards_given (a ∷ answers) = given_by a + guards_given answers

-- the guards that a schedule takes back: one by each Fill and each Abandon that was not answered
-- `NotNow`
abbrev pub guards_taken : {V : Type 0} → List (Event V) → List (Answer V) → ℕ
guards_taken [] answers = 0
guards_taken (e ∷ events) [] = 0
guards_taken (e ∷ events) (a ∷ answers) = taken_by e a + guards_taken events answers

-- each value that is shown stands for what the life's one fill gave, or for what the core began
-- filled with
abbrev pub ShowsTheFill : {V : Type 0} → (V → V → Type 0)
    → Option V → List (Event V) → List (Answer V) → Type 0
ShowsTheFill shows known (e ∷ events) (a ∷ answers) =
    IfSome (shown_by a) (MayShow shows known)
    × ShowsTheFill shows (value_after known e a) events answers
ShowsTheFill shows known _ _ = Unit {0}

-- none joins a life that was given up, until a new one is created
abbrev pub NoneJoinsGivenUp : {V : Type 0} → Bool → List (Answer V) → Type 0
NoneJoinsGivenUp given_up [] = Unit {0}
NoneJoinsGivenUp given_up (a ∷ answers) =
    (given_up ≡ true → a ≡ Answer.Joined → ⊥) × NoneJoinsGivenUp (given_up_after given_up a) answers

-- whether the waiter waits when the schedule ends: it waited at its start or joined in it, and was
-- not let go since
abbrev pub waits_at_end : {V : Type 0} → ℕ → Bool → List (Event V) → List (Answer V) → Bool
waits_at_end n before (e ∷ events) (a ∷ answers) =
    waits_at_end n (waits_after n before e a) events answers
waits_at_end n before _ _ = before

-- no life is given up while the waiter waits, from the start on or since it joined
abbrev pub NoGiveUpWhileWaiting : {V : Type 0}
    → ℕ → Bool → List (Event V) → List (Answer V) → Type 0
NoGiveUpWhileWaiting n before (e ∷ events) (a ∷ answers) =
    (a ≡ Answer.GivenUp → before ≡ false)
    × NoGiveUpWhileWaiting n (waits_after n before e a) events answers
NoGiveUpWhileWaiting n before _ _ = Unit {0}
