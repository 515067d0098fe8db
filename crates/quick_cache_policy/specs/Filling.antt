-- Filling a placeholder: the answer, and the hook calls that it makes.
use Rattle.std.specs.Prelude.{◌≡◌, ℕ, Bool, List, [], ◌∷◌, Result, Ok, Err, None}
use Rattle.quick_cache_model.specs.CacheState.{CacheState, LoadingEntry, UpToOrder}
use Rattle.quick_cache_model.specs.Hooks.{Rules, HookCall, BeforeEvict, EvictCold}
use Rattle.quick_cache_model.specs.Placeholders.{IsLoadingTicket, HasNoTicket, FillsPlaceholder, MakesRoomFor}
use Rattle.quick_cache_model.specs.Leads.{TellsBeside}
use Rattle.quick_cache_policy.specs.Advances.{AreEvictions}

-- The calls of a fill, in their order: `before_evict` for the pair, where it is too heavy; and then
-- the victims, or the pair with the value that was left, where it is turned away.
pub data AreFillCalls {K V : Type 0} (key : K) (value : V) : List (HookCall K V) → Type 0 where
  admits : (rest : List (HookCall K V)) → AreEvictions rest → AreFillCalls key value rest
  lightens : (left : V) (rest : List (HookCall K V)) → AreEvictions rest
      → AreFillCalls key value (BeforeEvict key value left ∷ rest)
  turns_away : (left : V)
      → AreFillCalls key value (BeforeEvict key value left ∷ EvictCold key left ∷ [])

-- room was made after a fill brought in a pair of that weight; its ticket is of no account
abbrev pub MakesRoomBehind : {K V : Type 0} → Rules K V → (weight : ℕ) → CacheState K V
    → List (HookCall K V) → CacheState K V → Type 0
MakesRoomBehind rules weight mid = MakesRoomFor 0 mid rules weight mid

module _ {K V : Type 0} (steady : Type 0) (ticket : ℕ) (old : CacheState K V) (rules : Rules K V)
    (marked : Bool) (value : V) where
  -- The placeholder of the ticket was filled: the calls are those of a fill, and whatever is pinned
  -- they tell what became of the residents and of the pair, whose key is the placeholder's. Where
  -- pinning is steady, they are those of a step to this state, up to the order of what has none.
  pub record Fills (new : CacheState K V) (calls : List (HookCall K V)) : Type 0 where
    pub before : List (LoadingEntry K)
    pub entry : LoadingEntry K
    pub after : List (LoadingEntry K)
    pub there : IsLoadingTicket ticket old before entry after
    pub order : AreFillCalls entry.key value calls
    pub tells : TellsBeside entry.key value old calls None new
    pub step : steady
        → UpToOrder (FillsPlaceholder ticket old rules marked value calls None) new

  -- the placeholder was gone: the value comes back, no hook is called, and nothing changed
  pub record IsGone (back : V) (new : CacheState K V) (calls : List (HookCall K V)) : Type 0 where
    pub gone : HasNoTicket ticket old
    pub value_back : back ≡ value
    pub no_hook : calls ≡ []
    pub unchanged : new ≡ old

  -- the answer of a fill
  abbrev pub AnswersFill : Result (Unit {0}) V → CacheState K V → List (HookCall K V) → Type 0
  AnswersFill (Ok done) new calls = Fills new calls
  AnswersFill (Err back) new calls = IsGone back new calls

-- the placeholder of the ticket is there, and is for this key
pub record AwaitsKey {K V : Type 0} (ticket : ℕ) (state : CacheState K V) (key : K) : Type 0 where
  pub before : List (LoadingEntry K)
  pub entry : LoadingEntry K
  pub after : List (LoadingEntry K)
  pub there : IsLoadingTicket ticket state before entry after
  pub of_key : entry.key ≡ key
