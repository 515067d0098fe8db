-- A load that answers its value.
use Rattle.std.specs.Prelude.{ℕ, ◌⊎◌, Bool, false, Some, Result, Ok, Err}
use Rattle.quick_cache_model.specs.declared.refusal.Refusal.{Refusal}
use Rattle.quick_cache_model.specs.CacheState.{CacheState, UpToOrder}
use Rattle.quick_cache_model.specs.Hooks.{Rules, Hooks, Calls}
use Rattle.quick_cache_model.specs.Lookups.{LooksUp}
use Rattle.quick_cache_model.specs.Placeholders.{GivesUpPlaceholder}
use Rattle.quick_cache_shard.specs.Alone.{IsDoneAlone}
use Rattle.quick_cache_shard.specs.Filling.{Fills}
use Rattle.quick_cache_shard.specs.Loading.{MakesNone}
use Rattle.quick_cache_shard.specs.References.{IsValueUnder}
use Rattle.quick_cache_shard.specs.Shard.{Shard}
use Rattle.quick_cache_shard.specs.Steps.{Goes, steady_in, hooks_in, rules_in}
use Rattle.quick_cache_unsync.specs.Loads.{Takes}
use Rattle.quick_cache_unsync.specs.declared.loading.not_loaded.LoadError.{LoadError}

-- it is a clone of the value that stands under the query
pub record IsCloneUnder {K V : Type 0} (is_clone : V → V → Type 0) (stands_for : K → Bool)
    (state : CacheState K V) (copy : V) : Type 0 where
  pub shown : V
  pub stands : IsValueUnder stands_for state shown
  pub cloned : is_clone shown copy

-- the clone of the value that stands under the query may be refused
pub record IsUnclonedUnder {K V : Type 0} (is_infallible : V → Type 0) (stands_for : K → Bool)
    (state : CacheState K V) : Type 0 where
  pub shown : V
  pub stands : IsValueUnder stands_for state shown
  pub fallible : ¬ (is_infallible shown)

module _ {K V S E : Type 0} (steady : Type 0) (hooks : Hooks K V S) (rules : Rules K V)
    (is_default : S → Type 0) (is_clone : V → V → Type 0) (is_infallible : V → Type 0) where
  module _ (ticket : ℕ) (given : Result V E → Type 0) (old : CacheState K V) where
    -- a clone of the value fills the placeholder that is awaited
    pub record FillsWithClone (value : V) (new : CacheState K V) : Type 0 where
      pub copy : V
      pub cloned : is_clone value copy
      pub fills : IsDoneAlone is_default
          (Calls hooks (Fills steady ticket old rules false copy new))

    -- the clone of the value may be refused, and the placeholder is given up
    pub record GivesUpUncloned (value : V) (new : CacheState K V) : Type 0 where
      pub fallible : ¬ (is_infallible value)
      pub gives_up : UpToOrder (GivesUpPlaceholder ticket old) new

    -- The loader's value is the answer. A clone of it is put in, or was refused.
    pub record AnswersLoaded (value : V) (new : CacheState K V) : Type 0 where
      pub loaded : given (Ok value)
      pub ends : FillsWithClone value new ⊎ GivesUpUncloned value new

    -- the loader's error is, and the placeholder is given up
    pub record AnswersError (error : E) (new : CacheState K V) : Type 0 where
      pub failed : given (Err error)
      pub gives_up : UpToOrder (GivesUpPlaceholder ticket old) new

    -- what the loader gave is the answer
    abbrev pub EndsFetch : Result V (LoadError E) → CacheState K V → Type 0
    EndsFetch (Ok value) new = AnswersLoaded value new
    EndsFetch (Err (LoadError.Failed error)) new = AnswersError error new
    EndsFetch (Err (LoadError.Refused refusal)) new = ⊥

  module _ (stands_for : K → Bool) (gives : K → Type 0) (hash : ℕ) (given : Result V E → Type 0)
      (old : CacheState K V) where
    -- An item was found and looked up, and the answer is a clone of the value that stands under the
    -- query, or that clone was refused. Or a placeholder was taken, and what the loader gave ends it
    -- and is the answer. Or none was made, no loader was called, and nothing changed.
    pub data Fetches : Result V (LoadError E) → CacheState K V → Type 0 where
      found : (value copy : V) (new : CacheState K V)
          → UpToOrder (LooksUp stands_for old (λ item. item.value) (Some value)) new
          → IsCloneUnder is_clone stands_for new copy → Fetches (Ok copy) new
      not_cloned : (value : V) (new : CacheState K V)
          → UpToOrder (LooksUp stands_for old (λ item. item.value) (Some value)) new
          → IsUnclonedUnder is_infallible stands_for new
          → Fetches (Err (LoadError.Refused Refusal.Memory)) new
      loads : (answer : Result V (LoadError E)) (ticket : ℕ) (mid new : CacheState K V)
          → Takes stands_for gives hash old ticket mid → EndsFetch ticket given mid answer new
          → Fetches answer new
      refused : (refusal : Refusal) (new : CacheState K V)
          → MakesNone stands_for gives hash old refusal new
          → Fetches (Err (LoadError.Refused refusal)) new

-- by what the cache goes by
module _ {K V We B L S E : Type 0} (goes : Goes K V We B L S) (may_count : ℕ → Type 0)
    (old : Shard K V We B L) (is_default : S → Type 0) (is_clone : V → V → Type 0)
    (is_infallible : V → Type 0) where
  -- the end of a load
  abbrev pub EndsFetchBy : (ticket : ℕ) → (given : Result V E → Type 0) → Result V (LoadError E)
      → (new : Shard K V We B L) → Type 0
  EndsFetchBy ticket given answer new =
      EndsFetch (steady_in goes old) (hooks_in goes old) (rules_in goes may_count old) is_default
      is_clone is_infallible ticket given old.state answer new.state

  -- a load
  abbrev pub FetchesBy : (stands_for : K → Bool) → (gives : K → Type 0) → (hash : ℕ)
      → (given : Result V E → Type 0) → Result V (LoadError E) → (new : Shard K V We B L) → Type 0
  FetchesBy stands_for gives hash given answer new =
      Fetches (steady_in goes old) (hooks_in goes old) (rules_in goes may_count old) is_default
      is_clone is_infallible stands_for gives hash given old.state answer new.state
