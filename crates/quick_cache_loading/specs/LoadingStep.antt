-- What each event does, by cases of the life, as the code's match goes.
use Rattle.std.specs.Prelude.{◌≡◌, ℕ, true, false, not, ◌&&◌, ◌||◌, ◌⊎◌, List, [], ◌∷◌, ◌++◌, MatchBool}
use Rattle.quick_cache_loading.specs.Waiting.{has, without_waiter}
use Rattle.quick_cache_loading.specs.Core.{Life, Loading, Filled, GivenUp, CoreState, core_state, new_core, is_handed_to}
use Rattle.quick_cache_model.specs.declared.refusal.Refusal.{Refusal}
use Rattle.quick_cache_loading.specs.declared.protocol.life.Holder.{Holder}
use Rattle.quick_cache_loading.specs.declared.protocol.events.Event.{Event}
use Rattle.quick_cache_loading.specs.declared.protocol.events.Answer.{Answer}

-- no case applies: `NotNow`, and nothing changes
abbrev pub NotNowOf : {V : Type 0} → CoreState V → Answer V → CoreState V → Type 0
NotNowOf old a new = (a ≡ Answer.NotNow) × (new ≡ old)

-- Values are shown by others: the second of `shows` may be answered for the first, as a clone is.
-- one that may be shown for the value is answered, or its memory was refused; nothing changes
abbrev pub Shows : {V : Type 0} → (V → V → Type 0) → V
    → CoreState V → Answer V → CoreState V → Type 0
Shows {V} shows v old a new =
    (((w : V) × shows v w × (a ≡ Answer.Value w)) ⊎ (a ≡ Answer.Refused Refusal.Memory))
    × (new ≡ old)

-- a given-up life begins anew: loading, held, with no waiters, in the shard
abbrev pub Creates : {V : Type 0} → Life V → CoreState V → Answer V → CoreState V → Type 0
Creates (Loading holder waiters) old a new = NotNowOf old a new
Creates (Filled v) old a new = NotNowOf old a new
Creates GivenUp old a new = (a ≡ Answer.Created) × (new ≡ core_state (Loading Holder.Held []) true)

-- the waiter comes last into the list, or memory was refused and nothing changes
abbrev pub Adds : {V : Type 0} → Holder → List ℕ → ℕ
    → CoreState V → Answer V → CoreState V → Type 0
Adds holder waiters n old a new =
    ((a ≡ Answer.Joined) × (new ≡ core_state (Loading holder (waiters ++ n ∷ [])) old.in_shard))
    ⊎ ((a ≡ Answer.Refused Refusal.Memory) × (new ≡ old))

-- in the shard: one who neither waits nor was handed the guard is added; a filled life shows its
-- value
abbrev pub Joins : {V : Type 0} → (V → V → Type 0) → Life V → ℕ
    → CoreState V → Answer V → CoreState V → Type 0
Joins shows (Loading holder waiters) n old a new =
    MatchBool (old.in_shard && not (is_handed_to holder n || has n waiters))
    (Adds holder waiters n old a new) (NotNowOf old a new)
Joins shows (Filled v) n old a new =
    MatchBool old.in_shard (Shows shows v old a new) (NotNowOf old a new)
Joins shows GivenUp n old a new = NotNowOf old a new

-- a held guard fills the life, and all waiters are done
abbrev pub FillsBy : {V : Type 0} → Holder → V → CoreState V → Answer V → CoreState V → Type 0
FillsBy Holder.Held v old a new = (a ≡ Answer.Done) × (new ≡ core_state (Filled v) old.in_shard)
FillsBy (Holder.HandedTo m) v old a new = NotNowOf old a new

-- a filled or a given-up life is not filled again
abbrev pub Fills : {V : Type 0} → Life V → V → CoreState V → Answer V → CoreState V → Type 0
Fills (Loading holder waiters) v old a new = FillsBy holder v old a new
Fills (Filled w) v old a new = NotNowOf old a new
Fills GivenUp v old a new = NotNowOf old a new

-- with no waiters the life is given up, outside the shard; else the waiter that was added last
-- leaves the list, and the guard is on its way to it
abbrev pub PassesOn : {V : Type 0} → List ℕ → CoreState V → Answer V → CoreState V → Type 0
PassesOn waiters old a new =
    ((waiters ≡ []) × (a ≡ Answer.GivenUp) × (new ≡ new_core))
    ⊎ ((others : List ℕ) × (m : ℕ) × (waiters ≡ others ++ m ∷ [])
    × (a ≡ Answer.HandedTo m)
    × (new ≡ core_state (Loading (Holder.HandedTo m) others) old.in_shard))

-- a held guard is passed on
abbrev pub AbandonsBy : {V : Type 0} → Holder → List ℕ → CoreState V → Answer V → CoreState V
    → Type 0
AbandonsBy Holder.Held waiters old a new = PassesOn waiters old a new
AbandonsBy (Holder.HandedTo m) waiters old a new = NotNowOf old a new

-- the holder passes its guard on
abbrev pub Abandons : {V : Type 0} → Life V → CoreState V → Answer V → CoreState V → Type 0
Abandons (Loading holder waiters) old a new = AbandonsBy holder waiters old a new
Abandons (Filled v) old a new = NotNowOf old a new
Abandons GivenUp old a new = NotNowOf old a new

-- the guard reaches the waiter that it was on its way to
abbrev pub Receives : {V : Type 0} → List ℕ → CoreState V → Answer V → CoreState V → Type 0
Receives waiters old a new =
    (a ≡ Answer.Guard) × (new ≡ core_state (Loading Holder.Held waiters) old.in_shard)

-- one who waits goes on waiting
abbrev pub Remains : {V : Type 0} → List ℕ → ℕ → CoreState V → Answer V → CoreState V → Type 0
Remains waiters n old a new =
    MatchBool (has n waiters) ((a ≡ Answer.Waiting) × (new ≡ old)) (NotNowOf old a new)

-- the guard that was handed to the waiter reaches it; else it goes on waiting; a filled life shows
-- its value
abbrev pub Takes : {V : Type 0} → (V → V → Type 0) → Life V → ℕ
    → CoreState V → Answer V → CoreState V → Type 0
Takes shows (Loading holder waiters) n old a new =
    MatchBool (is_handed_to holder n) (Receives waiters old a new) (Remains waiters n old a new)
Takes shows (Filled v) n old a new = Shows shows v old a new
Takes shows GivenUp n old a new = NotNowOf old a new

-- one who waits leaves the list, with this answer
abbrev pub Withdraws : {V : Type 0} → Answer V → Holder → List ℕ → ℕ
    → CoreState V → Answer V → CoreState V → Type 0
Withdraws given holder waiters n old a new =
    MatchBool (has n waiters)
    ((a ≡ given) × (new ≡ core_state (Loading holder (without_waiter n waiters)) old.in_shard))
    (NotNowOf old a new)

-- the guard that was handed to the waiter reaches it; else it no longer waits; a filled life shows
-- its value
abbrev pub TimesOut : {V : Type 0} → (V → V → Type 0) → Life V → ℕ
    → CoreState V → Answer V → CoreState V → Type 0
TimesOut shows (Loading holder waiters) n old a new =
    MatchBool (is_handed_to holder n)
    (Receives waiters old a new) (Withdraws Answer.TimedOut holder waiters n old a new)
TimesOut shows (Filled v) n old a new = Shows shows v old a new
TimesOut shows GivenUp n old a new = NotNowOf old a new

-- the guard that was handed to the waiter is passed on; else it no longer waits; a filled life
-- stays
abbrev pub Cancels : {V : Type 0} → Life V → ℕ → CoreState V → Answer V → CoreState V → Type 0
Cancels (Loading holder waiters) n old a new =
    MatchBool (is_handed_to holder n)
    (PassesOn waiters old a new) (Withdraws Answer.Done holder waiters n old a new)
Cancels (Filled v) n old a new = (a ≡ Answer.Done) × (new ≡ old)
Cancels GivenUp n old a new = NotNowOf old a new

-- the placeholder leaves the shard, and its life goes on
abbrev pub Leaves : {V : Type 0} → CoreState V → Answer V → CoreState V → Type 0
Leaves old a new =
    MatchBool old.in_shard
    ((a ≡ Answer.Done) × (new ≡ core_state old.life false)) (NotNowOf old a new)

-- One event: the core before it, the event, its answer, and the core after it.
abbrev pub LoadingStep : {V : Type 0} → (V → V → Type 0)
    → CoreState V → Event V → Answer V → CoreState V → Type 0
LoadingStep shows old Event.Create a new = Creates old.life old a new
LoadingStep shows old (Event.Join n) a new = Joins shows old.life n old a new
LoadingStep shows old (Event.Fill v) a new = Fills old.life v old a new
LoadingStep shows old Event.Abandon a new = Abandons old.life old a new
LoadingStep shows old (Event.Take n) a new = Takes shows old.life n old a new
LoadingStep shows old (Event.TimeOut n) a new = TimesOut shows old.life n old a new
LoadingStep shows old (Event.Cancel n) a new = Cancels old.life n old a new
LoadingStep shows old Event.Leave a new = Leaves old a new
