-- Loading a key's value by a loader or a guard, and what comes of it.
use Rattle.std.specs.Prelude.{ℕ, ⊤, Bool, true, false, Some, Result, Ok, Err}
use Rattle.std.specs.declared.num.NonZeroU32.{NonZeroU32 as Token}
use Rattle.quick_cache_model.specs.declared.refusal.Refusal.{Refusal}
use Rattle.quick_cache_model.specs.CacheState.{CacheState, UpToOrder}
use Rattle.quick_cache_model.specs.Hooks.{Rules, Hooks, Calls}
use Rattle.quick_cache_model.specs.Lookups.{LooksUp}
use Rattle.quick_cache_model.specs.Placeholders.{HasNoTicket, GivesUpPlaceholder}
use Rattle.quick_cache_model.specs.Loads.{LoadsNothing}
use Rattle.quick_cache_model.specs.References.{TellsItem}
use Rattle.quick_cache_unsync.specs.declared.loading.not_loaded.NotLoaded.{NotLoaded}
use Rattle.quick_cache_shard.specs.Alone.{IsDoneAlone}
use Rattle.quick_cache_shard.specs.Filling.{Fills, AnswersFill}
use Rattle.quick_cache_shard.specs.Loading.{IsMadeOrMet, MakesNone}

-- a placeholder of the ticket is there
abbrev pub IsAwaited : {K V : Type 0} → (ticket : ℕ) → CacheState K V → Type 0
IsAwaited ticket state = HasNoTicket ticket state → ⊥

-- A value fills the placeholder of a ticket, and is dropped where that is gone: nothing changes then.
module _ {K V S : Type 0} (steady : Type 0) (hooks : Hooks K V S) (rules : Rules K V)
    (ticket : ℕ) (old : CacheState K V) (value : V) (first : S) where
  pub record FillsIfThere (new : CacheState K V) (last : S) : Type 0 where
    pub answer : Result (Unit {0}) V
    pub fills : Calls hooks (AnswersFill steady ticket old rules false value answer new) first last

-- A loader's result is put under a key that is awaited under this ticket: a value fills the
-- placeholder, and the answer tells whether the key is resident then; an error gives the
-- placeholder up, and is the answer.
module _ {K V S E : Type 0} (steady : Type 0) (hooks : Hooks K V S) (rules : Rules K V)
    (is_default : S → Type 0) (stands_for : K → Bool) (ticket : ℕ) (given : Result V E → Type 0)
    (old : CacheState K V) where
  pub record FillsWith (answer : Bool) (new : CacheState K V) : Type 0 where
    pub value : V
    pub loaded : given (Ok value)
    pub fills : IsDoneAlone is_default (Calls hooks (Fills steady ticket old rules false value new))
    pub resident : TellsItem stands_for new answer

  pub record GivesUpWith (error : E) (new : CacheState K V) : Type 0 where
    pub failed : given (Err error)
    pub gives_up : UpToOrder (GivesUpPlaceholder ticket old) new

  abbrev pub EndsLoad : Result Bool E → CacheState K V → Type 0
  EndsLoad (Ok answer) new = FillsWith answer new
  EndsLoad (Err error) new = GivesUpWith error new

module _ {K V : Type 0} (stands_for : K → Bool) (gives : K → Type 0) (hash : ℕ)
    (old : CacheState K V) where
  -- a placeholder of this ticket was made, for a key that the query gave, or was met
  pub record Takes (ticket : ℕ) (new : CacheState K V) : Type 0 where
    pub made : Bool
    pub takes : IsMadeOrMet stands_for gives hash old made ticket new

  module _ {P : Type 0} (ticket_of : P → ℕ) where
    -- An item was found and looked up. Or a placeholder was taken. Or none was made, and nothing
    -- changed.
    abbrev pub LooksUpOrTakes : Result (Result Token P) Refusal → CacheState K V → Type 0
    LooksUpOrTakes (Ok (Ok token)) new =
        (value : V) × UpToOrder (LooksUp stands_for old (λ item. item.value) (Some value)) new
    LooksUpOrTakes (Ok (Err placeholder)) new = Takes (ticket_of placeholder) new
    LooksUpOrTakes (Err refusal) new = MakesNone stands_for gives hash old refusal new

module _ {K V S E : Type 0} (steady : Type 0) (hooks : Hooks K V S) (rules : Rules K V)
    (is_default : S → Type 0) (stands_for : K → Bool) (gives : K → Type 0) (hash : ℕ)
    (given : Result V E → Type 0) (old : CacheState K V) where
  -- What a loader gives is put in by the placeholder that was taken. Where pinning is steady, that
  -- is a step of its definition.
  pub record LoadsValue (there : Bool) (new : CacheState K V) : Type 0 where
    pub ticket : ℕ
    pub mid : CacheState K V
    pub takes : Takes stands_for gives hash old ticket mid
    pub fills : FillsWith steady hooks rules is_default stands_for ticket given mid there new

  pub record LoadsError (error : E) (new : CacheState K V) : Type 0 where
    pub failed : given (Err error)
    pub step : LoadsNothing rules stands_for hash old new

  -- An item was found, and is told of; no loader is called. Or a placeholder was taken, and the
  -- loader's result ends it. Or the call was refused before a loader was called, and nothing
  -- changed.
  pub data AnswersLoad : Result (Result Bool E) Refusal → CacheState K V → Type 0 where
    found : (value : V) (new : CacheState K V)
        → UpToOrder (LooksUp stands_for old (λ item. item.value) (Some value)) new
        → AnswersLoad (Ok (Ok true)) new
    loads : (there : Bool) (new : CacheState K V) → LoadsValue there new
        → AnswersLoad (Ok (Ok there)) new
    fails : (error : E) (new : CacheState K V) → LoadsError error new
        → AnswersLoad (Ok (Err error)) new
    refused : (refusal : Refusal) (new : CacheState K V)
        → MakesNone stands_for gives hash old refusal new → AnswersLoad (Err refusal) new

-- where a load tells that its key is resident
abbrev pub OnResident : {E : Type 0} → Result (Result Bool E) Refusal → Type 0 → Type 0
OnResident (Ok (Ok true)) P = P
OnResident (Ok (Ok false)) P = ⊤
OnResident (Ok (Err error)) P = ⊤
OnResident (Err refusal) P = ⊤

-- what a load answers that gives no reference, for this reason
abbrev pub answer_of : {E : Type 0} → NotLoaded E → Result (Result Bool E) Refusal
answer_of NotLoaded.NotKept = Ok (Ok false)
answer_of (NotLoaded.Failed error) = Ok (Err error)
answer_of (NotLoaded.Refused refusal) = Err refusal
