-- The answers of calls whose state before nobody knows.
use Rattle.std.specs.Prelude.{◌≡◌, ℕ, ◌-◌, Bool, Option, Result}
use Rattle.std.specs.declared.num.NonZeroU32.{NonZeroU32 as Token}
use Rattle.quick_cache_model.specs.declared.queue.Queue.{Queue}
use Rattle.quick_cache_model.specs.declared.refusal.Refusal.{Refusal}
use Rattle.quick_cache_model.specs.CacheState.{CacheState, UpToOrder, item_count}
use Rattle.quick_cache_model.specs.Hooks.{Rules, Hooks}
use Rattle.quick_cache_model.specs.Removal.{Removes}
use Rattle.quick_cache_shard.specs.Predicates.{RemovesAsked, RetainsAsked}
use Rattle.quick_cache_shard.specs.Alone.{IsDoneAlone}
use Rattle.quick_cache_shard.specs.Inserts.{Inserts}
use Rattle.quick_cache_shard.specs.Replaces.{Replaces}
use Rattle.quick_cache_shard.specs.RetainsSome.{RetainsSome}
use Rattle.quick_cache_shard.specs.Shard.{Shard}
use Rattle.quick_cache_shard.specs.Steps.{AnswersRestore, Goes, steady_in, hooks_in, rules_in}
use Rattle.quick_cache_locked.specs.Changes.{ChangesOrTakes}
use Rattle.quick_cache_locked.specs.Touches.{any_touches}

module _ {K V : Type 0} (stands_for : K → Bool) (old : CacheState K V) where
  -- a removal answers so, and some state comes of it
  pub record RemovesSo (hash : ℕ) (answer : Option (K × V)) : Type 0 where
    pub new : CacheState K V
    pub step : UpToOrder (Removes stands_for old hash answer) new

  -- the same of a removal by a test that answers once
  pub record RemovesAskedSo (answers : V → Bool → Type 0) (answer : Option (K × V)) : Type 0 where
    pub new : CacheState K V
    pub step : UpToOrder (RemovesAsked stands_for old answers answer) new

-- the value under the query was changed where it passed a test, or was taken out, or none was there,
-- and some state comes of it
pub record ChangesOrTakesSo {K V T : Type 0} (leaves : V → T → V → Type 0) (stands_for : K → Bool)
    (answers : V → Bool → Type 0) (rules : Rules K V) (old : CacheState K V)
    (answer : Result T (Option (K × V))) : Type 0 where
  pub new : CacheState K V
  pub step : ChangesOrTakes leaves stands_for answers rules old answer new

-- of the items those are gone that were answered no, so many, and some state comes of it
pub record RetainsAskedSo {K V : Type 0} (answers : K → V → Bool → Type 0) (old : CacheState K V)
    (gone : ℕ) : Type 0 where
  pub new : CacheState K V
  pub step : UpToOrder (RetainsAsked answers old) new
  pub counts : gone ≡ item_count old - item_count new

-- some items were passed behind a token, and some shard comes of it
pub record RetainsSomeSo {K V We B L : Type 0} (answers : K → V → Bool → Type 0) (after : ℕ)
    (old : Shard K V We B L) (at_most : ℕ) (answer : Option Token × ℕ) : Type 0 where
  pub new : Shard K V We B L
  pub step : RetainsSome answers after old at_most answer new

module _ {K V S : Type 0} (steady : Type 0) (hooks : Hooks K V S) (rules : Rules K V)
    (equal : K → K → Bool) (old : CacheState K V) where
  -- an insert answers so and leads the request state from the first to the last, and some state
  -- comes of it
  pub record InsertsSo (first : S) (key : K) (value : V)
      (answer : Result (Unit {0}) (K × V × Refusal)) (last : S) : Type 0 where
    pub new : CacheState K V
    pub step : Inserts steady hooks rules equal old first key value answer new last

  -- the same with a request state of the call's own, a default one at first
  pub record InsertsAloneSo (is_default : S → Type 0) (key : K) (value : V)
      (answer : Result (Unit {0}) (K × V × Refusal)) : Type 0 where
    pub new : CacheState K V
    pub step : IsDoneAlone is_default
        (λ first last. Inserts steady hooks rules equal old first key value answer new last)

  -- a replace answers so and leads the request state from the first to the last, and some state
  -- comes of it
  pub record ReplacesSo (soft : Bool) (first : S) (key : K) (value : V)
      (answer : Result (Unit {0}) (K × V)) (last : S) : Type 0 where
    pub new : CacheState K V
    pub step : Replaces steady hooks rules equal old soft first key value answer new last

  -- the same with a request state of the call's own, a default one at first
  pub record ReplacesAloneSo (is_default : S → Type 0) (soft : Bool) (key : K) (value : V)
      (answer : Result (Unit {0}) (K × V)) : Type 0 where
    pub new : CacheState K V
    pub step : IsDoneAlone is_default
        (λ first last. Replaces steady hooks rules equal old soft first key value answer new last)

-- a pair that was to come back answers so, and some state comes of it
pub record RestoresSo {K V : Type 0} (rules : Rules K V) (equal : K → K → Bool) (old : CacheState K V)
    (key : K) (value : V) (queue : Queue) (mark : ℕ)
    (answer : Result (Unit {0}) (K × V × Option Refusal)) : Type 0 where
  pub new : CacheState K V
  pub step : AnswersRestore rules equal key value queue mark old answer new

-- the same of a shard, as what it goes by says
module _ {K V We B L S : Type 0} (goes : Goes K V We B L S) (equal : K → K → Bool)
    (shard : Shard K V We B L) where
  abbrev pub InsertsSoBy : (first : S) → (key : K) → (value : V)
      → Result (Unit {0}) (K × V × Refusal) → (last : S) → Type 0
  InsertsSoBy first key value answer last =
      InsertsSo (steady_in goes shard) (hooks_in goes shard) (rules_in goes any_touches shard)
      equal shard.state first key value answer last

  abbrev pub InsertsAloneBy : (is_default : S → Type 0) → (key : K) → (value : V)
      → Result (Unit {0}) (K × V × Refusal) → Type 0
  InsertsAloneBy is_default key value answer =
      InsertsAloneSo (steady_in goes shard) (hooks_in goes shard) (rules_in goes any_touches shard)
      equal shard.state is_default key value answer

  abbrev pub ReplacesSoBy : (soft : Bool) → (first : S) → (key : K) → (value : V)
      → Result (Unit {0}) (K × V) → (last : S) → Type 0
  ReplacesSoBy soft first key value answer last =
      ReplacesSo (steady_in goes shard) (hooks_in goes shard) (rules_in goes any_touches shard)
      equal shard.state soft first key value answer last

  abbrev pub ReplacesAloneBy : (is_default : S → Type 0) → (soft : Bool) → (key : K) → (value : V)
      → Result (Unit {0}) (K × V) → Type 0
  ReplacesAloneBy is_default soft key value answer =
      ReplacesAloneSo (steady_in goes shard) (hooks_in goes shard) (rules_in goes any_touches shard)
      equal shard.state is_default soft key value answer

  abbrev pub RestoresSoBy : (key : K) → (value : V) → Queue → (mark : ℕ)
      → Result (Unit {0}) (K × V × Option Refusal) → Type 0
  RestoresSoBy = RestoresSo (rules_in goes any_touches shard) equal shard.state
