-- Loads in a cache for one thread whose entries end.
use Rattle.std.specs.Prelude.{◌≡◌, ℕ, Bool, true, false, Result, Ok, Err}
use Rattle.quick_cache_model.specs.declared.refusal.Refusal.{Refusal}
use Rattle.quick_cache_model.specs.Touches.{counted_up}
use Rattle.quick_cache_shard.specs.Shard.{KeepsTerms}
use Rattle.quick_cache_shard.specs.Steps.{Goes}
use Rattle.quick_cache_unsync.specs.Fetches.{FetchesBy}
use Rattle.quick_cache_unsync.specs.Steps.{LoadsBy}
use Rattle.quick_cache_unsync.specs.Touches.{no_touches}
use Rattle.quick_cache_unsync.specs.declared.loading.not_loaded.LoadError.{LoadError}
use Rattle.quick_cache_expiring.specs.declared.lasting.Lasting.{Lasting}
use Rattle.quick_cache_expiring.specs.declared.by_value.ByValue.{ByValue}
use Rattle.quick_cache_expiring.specs.Entries.{Entries, Expires}

-- a loader's value with this end, or its error
abbrev pub GivesWithEnd : {V E : Type 0} → (given : Result V E → Type 0) → (until : ℕ)
    → Result (Lasting V) E → Type 0
GivesWithEnd given until (Ok lasting) = given (Ok lasting.value) × (lasting.until ≡ until)
GivesWithEnd given until (Err error) = given (Err error)

-- one more where it is so, up to the greatest count
abbrev pub counted_if : Bool → ℕ → ℕ
counted_if true count = counted_up 1 count
counted_if false count = count

-- a load took out what was over and is then refused: the cache counts no miss of it
abbrev pub refused_so : {E : Type 0} → (over : Bool) → Result (Result Bool E) Refusal → Bool
refused_so over (Err refusal) = over
refused_so over (Ok answer) = false

-- so it is of a load that answers its value
abbrev pub unfetched_so : {V E : Type 0} → (over : Bool) → Result V (LoadError E) → Bool
unfetched_so over (Err (LoadError.Refused refusal)) = over
unfetched_so over (Err (LoadError.Failed error)) = false
unfetched_so over (Ok value) = false

-- of a value with its end the value is answered
abbrev pub without_end : {V E : Type 0} → Result (Lasting V) (LoadError E) → Result V (LoadError E)
without_end (Ok lasting) = Ok lasting.value
without_end (Err error) = Err error

module _ {K V We B L S E : Type 0} (goes : Goes K (Lasting V) (ByValue We) B L S)
    (is_default : S → Type 0) (stands_for : K → Bool) (gives : K → Type 0) (hash_by : B → ℕ)
    (now until : ℕ) (given : Result V E → Type 0) (old : Entries K V We B L) where
  -- What is over goes first, and is counted. Then the key is looked up, and the loader's value is
  -- stored with this end where there is none.
  pub record LoadsAt (answer : Result (Result Bool E) Refusal) (new : Entries K V We B L) : Type 0
    where
      pub over : Bool
      pub mid : Entries K V We B L
      pub expires : Expires stands_for now old over mid
      pub loads : LoadsBy goes no_touches mid.cache is_default stands_for gives
          (hash_by mid.cache.builder) (GivesWithEnd given until) answer new.cache
      pub same : KeepsTerms old.cache new.cache
      pub rest : new ≡ record mid {
        cache = new.cache;
        refused = counted_if (refused_so over answer) mid.refused;
      }

  -- The same of a load that answers its value: a clone of the one that is stored, or the loader's.
  pub record FetchesAt (is_clone : V → V → Type 0) (is_infallible : V → Type 0)
      (answer : Result V (LoadError E)) (new : Entries K V We B L) : Type 0
    where
      pub over : Bool
      pub mid : Entries K V We B L
      pub expires : Expires stands_for now old over mid
      pub told : Result (Lasting V) (LoadError E)
      pub fetches : FetchesBy goes no_touches mid.cache is_default
          (λ was copy. is_clone was.value copy.value × (copy.until ≡ was.until))
          (λ lasting. is_infallible lasting.value) stands_for gives (hash_by mid.cache.builder)
          (GivesWithEnd given until) told new.cache
      pub values : answer ≡ without_end told
      pub same : KeepsTerms old.cache new.cache
      pub rest : new ≡ record mid {
        cache = new.cache;
        refused = counted_if (unfetched_so over told) mid.refused;
      }
