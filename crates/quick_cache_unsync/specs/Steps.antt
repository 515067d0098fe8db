-- The steps of a cache's calls that fill, load, or write through references, as what it goes by
-- says. The request state comes last, before and after.
use Rattle.std.specs.Prelude.{ℕ, ◌+◌, ◌≤◌, Bool, false, Result}
use Rattle.quick_cache_model.specs.References.{WritesItem}
use Rattle.quick_cache_model.specs.CacheState.{UpToOrder}
use Rattle.quick_cache_model.specs.Hooks.{Calls}
use Rattle.quick_cache_model.specs.declared.refusal.Refusal.{Refusal}
use Rattle.quick_cache_shard.specs.Filling.{Fills}
use Rattle.quick_cache_shard.specs.Loading.{MakesNone}
use Rattle.quick_cache_shard.specs.Shard.{Shard, KeepsTerms, KeepsWork}
use Rattle.quick_cache_shard.specs.Steps.{Goes, steady_in, hooks_in, rules_in}
use Rattle.quick_cache_unsync.specs.Loads.{AnswersLoad, EndsLoad, FillsIfThere}
use Rattle.quick_cache_unsync.specs.References.{Sets}

module _ {K V We B L S : Type 0} (goes : Goes K V We B L S)
    (may_count : ℕ → Type 0) (old : Shard K V We B L) where
  -- a fill of a placeholder that is there
  abbrev pub FillsThereBy : (ticket : ℕ) → (value : V) → (new : Shard K V We B L) → S → S → Type 0
  FillsThereBy ticket value new =
      Calls (hooks_in goes old) (Fills (steady_in goes old) ticket old.state
      (rules_in goes may_count old) false value new.state)

  -- a fill of a placeholder, if it is there
  abbrev pub FillsIfThereBy : (ticket : ℕ) → (value : V) → (new : Shard K V We B L) → S → S
      → Type 0
  FillsIfThereBy ticket value new first last =
      FillsIfThere (steady_in goes old) (hooks_in goes old) (rules_in goes may_count old)
      ticket old.state value first new.state last

  -- a value that is written through a reference that is a look-up
  abbrev pub SetsBy : (stands_for : K → Bool) → (value : V) → (there : Bool)
      → (new : Shard K V We B L) → Type 0
  SetsBy stands_for value there new =
      Sets stands_for (rules_in goes may_count old) old.state value there new.state

  -- a value that is written through a reference that is none
  abbrev pub PokesBy : (stands_for : K → Bool) → (value : V) → (there : Bool)
      → (new : Shard K V We B L) → Type 0
  PokesBy stands_for value there new =
      UpToOrder (WritesItem (rules_in goes may_count old) stands_for old.state value there)
      new.state

  module _ {E : Type 0} (is_default : S → Type 0) (stands_for : K → Bool) where
    -- the end of a load
    abbrev pub EndsLoadBy : (ticket : ℕ) → (given : Result V E → Type 0) → Result Bool E
        → (new : Shard K V We B L) → Type 0
    EndsLoadBy ticket given answer new =
        EndsLoad (steady_in goes old) (hooks_in goes old) (rules_in goes may_count old)
        is_default stands_for ticket given old.state answer new.state

    -- a load
    abbrev pub LoadsBy : (gives : K → Type 0) → (hash : ℕ) → (given : Result V E → Type 0)
        → Result (Result Bool E) Refusal → (new : Shard K V We B L) → Type 0
    LoadsBy gives hash given answer new =
        AnswersLoad (steady_in goes old) (hooks_in goes old) (rules_in goes may_count old)
        is_default stands_for gives hash given old.state answer new.state

    -- A load: it takes room for one entry at most, and the cache is made with the same.
    abbrev pub LoadsWithin : (gives : K → Type 0) → (hash : ℕ) → (given : Result V E → Type 0)
        → Result (Result Bool E) Refusal → (new : Shard K V We B L) → Type 0
    LoadsWithin gives hash given answer new =
        LoadsBy gives hash given answer new × (old.room ≤ new.room + 1) × KeepsTerms old new

-- A placeholder was refused: nothing changed but that some room may be there.
abbrev pub TakesNone : {K V We B L : Type 0} → (stands_for : K → Bool) → (gives : K → Type 0)
    → (hash : ℕ) → (old : Shard K V We B L) → Refusal → (new : Shard K V We B L) → Type 0
TakesNone stands_for gives hash old refusal new =
    MakesNone stands_for gives hash old.state refusal new.state × (old.room ≤ new.room + 1)
    × KeepsWork old new
