-- Writes: their answers, and the hook calls that they make.
use Rattle.std.specs.Prelude.{◌≡◌, ℕ, ◌+◌, ◌⊎◌, Bool, true, false, List, [], ◌∷◌, ◌++◌, Option, nat_le, if◌then◌else◌}
use Rattle.quick_cache_model.specs.declared.queue.Queue.{Queue}
use Rattle.quick_cache_model.specs.declared.refusal.Refusal.{Refusal}
use Rattle.quick_cache_model.specs.CacheState.{CacheState, UpToOrder, hot_weight}
use Rattle.quick_cache_model.specs.Admission.{Admitted, TooHeavy, ChecksAdmission}
use Rattle.quick_cache_model.specs.Hooks.{Rules, Hooks, HookCall, Calls, BeforeEvict, EvictCold, evicted}
use Rattle.quick_cache_model.specs.Refusals.{Needs, IsProvided, MayRefuse, needs_of_insert}
use Rattle.quick_cache_model.specs.Writes.{Strategy, Insert, Replace, SoftReplace, Writes, WritesAdmitted, RejectsTooHeavy}
use Rattle.quick_cache_model.specs.Leads.{TellsBeside}
use Rattle.quick_cache_policy.specs.declared.writing.admission.Admission.{Admission}
use Rattle.quick_cache_policy.specs.declared.strategy.InsertStrategy.{InsertStrategy}
use Rattle.quick_cache_policy.specs.Advances.{AreEvictions}

-- what the code calls a strategy
abbrev pub strategy_of : InsertStrategy → Strategy
strategy_of InsertStrategy.Insert = Insert
strategy_of (InsertStrategy.Replace true) = SoftReplace
strategy_of (InsertStrategy.Replace false) = Replace

-- whether a write makes an item where none is
abbrev pub is_insert : Strategy → Bool
is_insert Insert = true
is_insert Replace = false
is_insert SoftReplace = false

-- a replace needs nothing that may run out
abbrev pub needs_of_write : {K V : Type 0} (stands_for : K → Bool) (hash : ℕ)
    (state : CacheState K V) → Strategy → Needs
needs_of_write stands_for hash state Insert = needs_of_insert stands_for hash state
needs_of_write stands_for hash state Replace = record { ticket = ⊥; slot = ⊥; memory = ⊥ }
needs_of_write stands_for hash state SoftReplace = record { ticket = ⊥; slot = ⊥; memory = ⊥ }

-- the queue of a pair of that weight that comes in: hot if it fits the target beside what is hot
abbrev pub queue_by : {K V : Type 0} → CacheState K V → (weight : ℕ) → (otherwise : Queue) → Queue
queue_by state weight otherwise =
    if nat_le (hot_weight state + weight) state.hot_target then Queue.Hot else otherwise

-- the pair that leaves for another one is told to a hook, if there is one
pub data IsReplacement {K V : Type 0} : List (HookCall K V) → Type 0 where
  none : IsReplacement []
  one : (queue : Queue) (key : K) (value : V) → IsReplacement (evicted queue key value ∷ [])

-- an item that leaves for a pair is told, and then the victims are
pub data AreAdmittedCalls {K V : Type 0} : List (HookCall K V) → Type 0 where
  writes : (replaced rest : List (HookCall K V)) → IsReplacement replaced → AreEvictions rest
      → AreAdmittedCalls (replaced ++ rest)

-- The calls of a write of a pair, in their order: `before_evict` for that pair, where it is too
-- heavy; then the item that it takes the place of; and then the victims, or the pair with the value
-- that was left, where it is turned away.
pub data AreWriteCalls {K V : Type 0} (key : K) (value : V) : List (HookCall K V) → Type 0 where
  admits : (rest : List (HookCall K V)) → AreAdmittedCalls rest → AreWriteCalls key value rest
  lightens : (left : V) (rest : List (HookCall K V)) → AreAdmittedCalls rest
      → AreWriteCalls key value (BeforeEvict key value left ∷ rest)
  rejects : (left : V) (replaced : List (HookCall K V)) → IsReplacement replaced
      → AreWriteCalls key value (BeforeEvict key value left ∷ replaced ++ EvictCold key left ∷ [])
  gives_back : (left : V) (replaced : List (HookCall K V)) → IsReplacement replaced
      → AreWriteCalls key value (BeforeEvict key value left ∷ replaced)

module _ {K V : Type 0} (steady : Type 0) (rules : Rules K V) (equal_to : K → Bool) (key : K)
    (strategy : Strategy) (old : CacheState K V) (value : V) (answer : Option (K × V))
    (new : CacheState K V) (calls : List (HookCall K V)) where
  -- The calls are those of a write of the pair, and whatever is pinned they tell what became of the
  -- pair and of the residents. Where pinning is steady, they are those of a step to this state, up
  -- to the order of what has none.
  abbrev pub Writing : Type 0
  Writing = (steady → UpToOrder (Writes rules equal_to key strategy old value calls answer) new)
      × AreWriteCalls key value calls × TellsBeside key value old calls answer new

  -- the same of the write of a pair that was admitted
  abbrev pub WritingAdmitted : Type 0
  WritingAdmitted =
      (steady → UpToOrder (WritesAdmitted rules equal_to key strategy old value calls answer) new)
      × AreAdmittedCalls calls × TellsBeside key value old calls answer new

-- A pair that is too heavy was turned away, after `before_evict` left this value: the item under
-- its key leaves, and an insert tells the pair to the cold hook.
abbrev pub Rejecting : {K V : Type 0} → (equal_to : K → Bool) → (key : K) → Strategy
    → (old : CacheState K V) → (left : V) → Option (K × V) → (new : CacheState K V)
    → List (HookCall K V) → Type 0
Rejecting {V = V} equal_to key strategy old left answer new calls =
    RejectsTooHeavy equal_to key strategy old left calls answer new
    × ((value : V) → AreWriteCalls key value (BeforeEvict key value left ∷ calls))
    × TellsBeside key left old calls answer new

module _ {K V : Type 0} (steady : Type 0) (rules : Rules K V) (hot_target : ℕ) (key : K)
    (value : V) where
  -- What a check of a pair answered. The value that was left is weighed; and only a pair that was
  -- handed to `before_evict` is too heavy.
  abbrev pub Checks : Admission V → List (HookCall K V) → Type 0
  Checks (Admission.Admitted admitted) calls =
      (steady → ChecksAdmission rules hot_target key value calls (Admitted admitted.value))
      × (admitted.weight ≡ rules.weight key admitted.value)
      × (((calls ≡ []) × (admitted.value ≡ value))
      ⊎ (calls ≡ BeforeEvict key value admitted.value ∷ []))
  Checks (Admission.TooHeavy left) calls =
      (steady → ChecksAdmission rules hot_target key value calls (TooHeavy left))
      × (calls ≡ BeforeEvict key value left ∷ [])

module _ {K V S : Type 0} (steady : Type 0) (hooks : Hooks K V S) (rules : Rules K V)
    (equal : K → K → Bool) (strategy : Strategy) (old : CacheState K V) (first : S) (key : K)
    (value : V) where
  -- what it needs of slots and memory
  abbrev pub needs : Needs
  needs = needs_of_write (equal key) (rules.hash key) old strategy

  -- the pair was written, with this answer, and there was a slot where one was needed
  pub record Wrote (answer : Option (K × V)) (new : CacheState K V) (last : S) : Type 0 where
    pub provided : IsProvided needs old
    pub step : Calls hooks (Writing steady rules (equal key) key strategy old value answer new)
        first last

  -- a refused write changed nothing, called no hook, and gives the pair back
  pub record RefusesWrite (back_key : K) (back_value : V) (refusal : Refusal) (new : CacheState K V)
      (last : S) : Type 0 where
    pub key_back : back_key ≡ key
    pub value_back : back_value ≡ value
    pub unchanged : new ≡ old
    pub no_hook : last ≡ first
    pub cause : MayRefuse needs old refusal
