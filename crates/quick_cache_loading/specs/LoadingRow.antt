-- The table of the loading core, a row for each thing that can happen: the event, the core before
-- it,
-- its answer, the core after it.
use Rattle.std.specs.Prelude.{◌≡◌, ◌↔◌, ℕ, true, false, List, [], ◌∷◌, ◌++◌}
use Rattle.quick_cache_loading.specs.Waiting.{has, without_waiter}
use Rattle.quick_cache_loading.specs.Core.{Loading, Filled, GivenUp, CoreState, core_state, new_core, is_handed_to}
use Rattle.quick_cache_loading.specs.LoadingStep.{LoadingStep}
use Rattle.quick_cache_model.specs.declared.refusal.Refusal.{Refusal}
use Rattle.quick_cache_loading.specs.declared.protocol.life.Holder.{Holder}
use Rattle.quick_cache_loading.specs.declared.protocol.events.Event.{Event}
use Rattle.quick_cache_loading.specs.declared.protocol.events.Answer.{Answer}

-- the event lets go of the guard, where this is its holder
pub data Releases {V : Type 0} : Event V → Holder → Type 0 where
  abandoning : Releases Event.Abandon Holder.Held
  cancelling : (n : ℕ) → Releases (Event.Cancel n) (Holder.HandedTo n)

-- the event collects the guard that was handed to this waiter
pub data Collects {V : Type 0} : Event V → ℕ → Type 0 where
  taking : (n : ℕ) → Collects (Event.Take n) n
  timing_out : (n : ℕ) → Collects (Event.TimeOut n) n

-- the event withdraws this waiter, with this answer
pub data Retires {V : Type 0} : Event V → ℕ → Answer V → Type 0 where
  by_time : (n : ℕ) → Retires (Event.TimeOut n) n Answer.TimedOut
  by_cancel : (n : ℕ) → Retires (Event.Cancel n) n Answer.Done

-- the event asks a filled life for its value: Join only in the shard
pub data AsksForValue {V : Type 0} : Event V → CoreState V → Type 0 where
  by_joining : (n : ℕ) (old : CoreState V) → old.in_shard ≡ true → AsksForValue (Event.Join n) old
  by_taking : (n : ℕ) (old : CoreState V) → AsksForValue (Event.Take n) old
  by_timing_out : (n : ℕ) (old : CoreState V) → AsksForValue (Event.TimeOut n) old

module _ {V : Type 0} (shows : V → V → Type 0) where
  -- One event that does something or is told something.
  pub data ActingRow : Event V → CoreState V → Answer V → CoreState V → Type 0 where
    -- a given-up life begins anew
    creates : (old : CoreState V) → old.life ≡ GivenUp
        → ActingRow Event.Create old Answer.Created (core_state (Loading Holder.Held []) true)
    -- one who neither waits nor was handed the guard comes last into the list
    joins : (old : CoreState V) (h : Holder) (waiters : List ℕ) (n : ℕ)
        → old.life ≡ Loading h waiters → old.in_shard ≡ true
        → is_handed_to h n ≡ false → has n waiters ≡ false
        → ActingRow (Event.Join n) old Answer.Joined
        (core_state (Loading h (waiters ++ n ∷ [])) old.in_shard)
    -- or there is no memory for it
    lacks_room : (old : CoreState V) (h : Holder) (waiters : List ℕ) (n : ℕ)
        → old.life ≡ Loading h waiters → old.in_shard ≡ true
        → is_handed_to h n ≡ false → has n waiters ≡ false
        → ActingRow (Event.Join n) old (Answer.Refused Refusal.Memory) old
    -- a filled life shows one for its value
    shows_the_value : (e : Event V) (old : CoreState V) (v w : V)
        → old.life ≡ Filled v → AsksForValue e old → shows v w
        → ActingRow e old (Answer.Value w) old
    -- or there is no memory for the clone
    lacks_a_clone : (e : Event V) (old : CoreState V) (v : V)
        → old.life ≡ Filled v → AsksForValue e old
        → ActingRow e old (Answer.Refused Refusal.Memory) old
    -- a held guard fills the life
    fills : (old : CoreState V) (waiters : List ℕ) (v : V) → old.life ≡ Loading Holder.Held waiters
        → ActingRow (Event.Fill v) old Answer.Done (core_state (Filled v) old.in_shard)
    -- a guard that is let go is on its way to the waiter that was added last
    hands_on : (e : Event V) (old : CoreState V) (h : Holder) (others : List ℕ) (m : ℕ)
        → Releases e h → old.life ≡ Loading h (others ++ m ∷ [])
        → ActingRow e old (Answer.HandedTo m)
        (core_state (Loading (Holder.HandedTo m) others) old.in_shard)
    -- or, where nobody waits, the life is given up
    gives_up : (e : Event V) (old : CoreState V) (h : Holder)
        → Releases e h → old.life ≡ Loading h [] → ActingRow e old Answer.GivenUp new_core
    -- the guard reaches the waiter to whom it was handed
    receives : (e : Event V) (old : CoreState V) (n : ℕ) (waiters : List ℕ)
        → Collects e n → old.life ≡ Loading (Holder.HandedTo n) waiters
        → ActingRow e old Answer.Guard (core_state (Loading Holder.Held waiters) old.in_shard)
    -- one who waits goes on waiting
    waits_on : (old : CoreState V) (h : Holder) (waiters : List ℕ) (n : ℕ)
        → old.life ≡ Loading h waiters → is_handed_to h n ≡ false → has n waiters ≡ true
        → ActingRow (Event.Take n) old Answer.Waiting old
    -- one who waits leaves the list
    withdraws : (e : Event V) (old : CoreState V) (h : Holder) (waiters : List ℕ) (n : ℕ)
        (a : Answer V) → Retires e n a
        → old.life ≡ Loading h waiters → is_handed_to h n ≡ false → has n waiters ≡ true
        → ActingRow e old a (core_state (Loading h (without_waiter n waiters)) old.in_shard)
    -- a filled life stays as it is
    cancels_in_vain : (old : CoreState V) (v : V) (n : ℕ) → old.life ≡ Filled v
        → ActingRow (Event.Cancel n) old Answer.Done old
    -- the placeholder leaves the shard
    leaves : (old : CoreState V) → old.in_shard ≡ true
        → ActingRow Event.Leave old Answer.Done (core_state old.life false)

  -- no such row is about this event in this core
  abbrev pub NoRowApplies : Event V → CoreState V → Type 0
  NoRowApplies e old = (a : Answer V) (new : CoreState V) → ActingRow e old a new → ⊥

  -- The table: a row that applies, or where none does `NotNow`, and nothing changes.
  pub data LoadingRow : Event V → CoreState V → Answer V → CoreState V → Type 0 where
    acts : {e : Event V} {old : CoreState V} {a : Answer V} {new : CoreState V}
        → ActingRow e old a new → LoadingRow e old a new
    no_row_applies : (e : Event V) (old : CoreState V) → NoRowApplies e old
        → LoadingRow e old Answer.NotNow old

-- The table by rows is what the code does by cases.
abbrev pub TablesAgree : {V : Type 0} → (V → V → Type 0) → Type 0
TablesAgree {V} shows =
    (e : Event V) (old : CoreState V) (a : Answer V) (new : CoreState V)
    → LoadingRow shows e old a new ↔ LoadingStep shows old e a new
