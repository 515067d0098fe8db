-- The life of a placeholder, and what a core is seen as.
use Rattle.std.specs.Prelude.{ℕ, ◌==◌, Bool, true, false, not, ◌&&◌, ◌||◌, List, [], ◌∷◌, Option, Some, None}
use Rattle.quick_cache_loading.specs.Waiting.{has, is_distinct}
use Rattle.quick_cache_loading.specs.declared.protocol.life.Holder.{Holder}

-- A life is loading, with a holder of the guard and a list of those who wait; or filled with a
-- value; or given up.
pub data Life (V : Type 0) : Type 0 where
  Loading : Holder → List ℕ → Life V
  Filled : V → Life V
  GivenUp : Life V

-- A core is its life, and whether its placeholder is in the shard.
pub record CoreState (V : Type 0) : Type 0 where
  pub life : Life V
  pub in_shard : Bool

-- the core of this life, in the shard or outside
abbrev pub core_state : {V : Type 0} → Life V → Bool → CoreState V
core_state life in_shard = record { life = life; in_shard = in_shard }

-- a core begins given up and outside the shard
abbrev pub new_core : {V : Type 0} → CoreState V
new_core = core_state GivenUp false

-- the guard is on its way to the waiter
abbrev pub is_handed_to : Holder → ℕ → Bool
is_handed_to Holder.Held n = false
is_handed_to (Holder.HandedTo m) n = m == n

-- the waiters are distinct, and the one that the guard is on its way to is not among them
abbrev pub is_apart : Holder → List ℕ → Bool
is_apart Holder.Held waiters = is_distinct waiters
is_apart (Holder.HandedTo m) waiters = not (has m waiters) && is_distinct waiters

-- a life that can be: while it loads, holder and waiters are apart
abbrev pub is_sound : {V : Type 0} → Life V → Bool
is_sound (Loading holder waiters) = is_apart holder waiters
is_sound (Filled v) = true
is_sound GivenUp = true

-- those who wait: only a loading life has any
abbrev pub waiters_of : {V : Type 0} → Life V → List ℕ
waiters_of (Loading holder waiters) = waiters
waiters_of (Filled v) = []
waiters_of GivenUp = []

-- all numbers that a life has: of the one to whom the guard was handed, and of those who wait
abbrev pub numbers_in : {V : Type 0} → Life V → List ℕ
numbers_in (Loading Holder.Held waiters) = waiters
numbers_in (Loading (Holder.HandedTo m) waiters) = m ∷ waiters
numbers_in (Filled v) = []
numbers_in GivenUp = []

-- the waiter is in the core's list
abbrev pub waits : {V : Type 0} → ℕ → CoreState V → Bool
waits n core = has n (waiters_of core.life)

-- the value that the life is filled with
abbrev pub value_of : {V : Type 0} → Life V → Option V
value_of (Loading holder waiters) = None
value_of (Filled v) = Some v
value_of GivenUp = None

-- the life is loading
abbrev pub is_loading : {V : Type 0} → Life V → Bool
is_loading (Loading holder waiters) = true
is_loading (Filled v) = false
is_loading GivenUp = false

-- the life is given up
abbrev pub is_given_up : {V : Type 0} → Life V → Bool
is_given_up (Loading holder waiters) = false
is_given_up (Filled v) = false
is_given_up GivenUp = true

-- the life is filled
abbrev pub is_filled : {V : Type 0} → Life V → Bool
is_filled (Loading holder waiters) = false
is_filled (Filled v) = true
is_filled GivenUp = false

-- the life is filled, or it loads and has this one as a waiter or as the one to whom the guard was
-- handed
abbrev pub concerns : {V : Type 0} → ℕ → Life V → Bool
concerns n (Loading holder waiters) = is_handed_to holder n || has n waiters
concerns n (Filled v) = true
concerns n GivenUp = false

-- 1 for a held guard, 0 for one on its way
abbrev pub held_by : Holder → ℕ
held_by Holder.Held = 1
held_by (Holder.HandedTo n) = 0

-- the same of a life: a guard is held only while it loads
abbrev pub held_in : {V : Type 0} → Life V → ℕ
held_in (Loading holder waiters) = held_by holder
held_in (Filled v) = 0
held_in GivenUp = 0

-- the number of guards held: 1 where the life is loading and its guard is held, else 0
abbrev pub held_count : {V : Type 0} → CoreState V → ℕ
held_count core = held_in core.life

-- 0 for a held guard, 1 for one on its way
abbrev pub handed_by : Holder → ℕ
handed_by Holder.Held = 0
handed_by (Holder.HandedTo n) = 1

-- the same of a life
abbrev pub handed_in : {V : Type 0} → Life V → ℕ
handed_in (Loading holder waiters) = handed_by holder
handed_in (Filled v) = 0
handed_in GivenUp = 0

-- the number of guards on their way: 1 where the life is loading and its guard was handed to a
-- waiter, else 0
abbrev pub handed_count : {V : Type 0} → CoreState V → ℕ
handed_count core = handed_in core.life
