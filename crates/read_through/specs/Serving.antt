-- What is stored and served under a read lock, beside other threads.
use Rattle.std.specs.Prelude.{◌≡◌, ◌↔◌, ℕ, Bool, IsTrue, Option, Some, None, Result, Ok, Err}
use Rattle.quick_cache_model.specs.declared.refusal.Refusal.{Refusal}
use Rattle.quick_cache_model.specs.declared.terms.lifecycle.Lifecycle as lifecycle
use Rattle.quick_cache_model.specs.CacheState.{CacheState}
use Rattle.quick_cache_shard.specs.Shard.{Shard}
use Rattle.quick_cache_locked.specs.Locked.{FromSome}
use Rattle.quick_cache_locked.specs.Peeks.{Miss, Peeks, PeeksIf}
use Rattle.quick_cache_expiring.specs.declared.by_value.ByValue.{ByValue}
use Rattle.quick_cache_expiring.specs.declared.loaded.Loaded.{Loaded}
use Rattle.quick_cache_expiring.specs.Moments.{IsYoung, Serves}
use Rattle.read_through.specs.declared.fresh.Fresh.{Fresh}

-- a clone of the value, of the same moment, whose loader was asked at the same
abbrev pub ClonesLoaded : {V : Type 0} → (V → V → Type 0) → Loaded V → Loaded V → Type 0
ClonesLoaded is_clone old new = is_clone old.value new.value × (new.moment ≡ old.moment)
    × (new.asked ≡ old.asked)

module _ {K V : Type 0} (stands_for : K → Bool) (is_clone : V → V → Type 0)
    (life_of : V → ℕ → ℕ) (refresh_after now : ℕ) where
  -- A look shows a clone of a value that is there, serves, and whose loader was asked no longer ago
  -- than that.
  pub record ShowsYoung (old : CacheState K (Loaded V)) (value : V) : Type 0 where
    pub found : Loaded V
    pub shows : Peeks stands_for (ClonesLoaded is_clone) old (Ok (Some found))
    pub young : IsYoung (life_of found.value found.moment) found.moment found.asked refresh_after
        now
    pub is : value ≡ found.value

-- some shard showed so
abbrev pub ServesYoung : {K V S R : Type 0} (We B : Type 0) → lifecycle.Ghosts (Fresh S) K (Loaded V) R
    → (K → K → Bool) → (is_clone : V → V → Type 0) → (stands_for : K → Bool)
    → (life_of : V → ℕ → ℕ) → (refresh_after now : ℕ) → V → Type 0
ServesYoung {K} {V} {S} We B life equal is_clone stands_for life_of refresh_after now value =
    FromSome life equal
    (λ (shard : Shard K (Loaded V) (ByValue We) B (Fresh S)).
    ShowsYoung stands_for is_clone life_of refresh_after now shard.state value)

-- a test of what serves at this moment answers so
abbrev pub TellsServing : {V : Type 0} → (life_of : V → ℕ → ℕ) → (now : ℕ) → Loaded V → Bool → Type 0
TellsServing life_of now loaded said =
    IsTrue said ↔ Serves (life_of loaded.value loaded.moment) loaded.moment now

module _ {K V : Type 0} (stands_for : K → Bool) (is_clone : V → V → Type 0)
    (life_of : V → ℕ → ℕ) (now : ℕ) (old : CacheState K (Loaded V)) where
  -- A look shows a clone of a value that is there and serves. It shows none where what is there does
  -- not, or nothing is there. It is refused only where the clone failed of a value that serves.
  abbrev pub ShowsServing : Result (Option V) Refusal → Type 0
  ShowsServing (Ok (Some value)) = (found : Loaded V) × (value ≡ found.value)
      × PeeksIf stands_for (ClonesLoaded is_clone) (TellsServing life_of now) old (Ok (Ok found))
  ShowsServing (Ok None) = (miss : Miss)
      × PeeksIf stands_for (ClonesLoaded is_clone) (TellsServing life_of now) old (Ok (Err miss))
  ShowsServing (Err refusal) =
      PeeksIf stands_for (ClonesLoaded is_clone) (TellsServing life_of now) old (Err refusal)
