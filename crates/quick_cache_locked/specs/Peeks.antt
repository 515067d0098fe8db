-- Looks that clone what they find.
use Rattle.std.specs.Prelude.{Bool, List, Option, Result, Ok, Err, IfOk, IfSome}
use Rattle.quick_cache_model.specs.declared.refusal.Refusal.{Refusal}
use Rattle.quick_cache_model.specs.CacheState.{CacheState, Item, Place}
use Rattle.quick_cache_model.specs.Finding.{IsItemAt}
use Rattle.quick_cache_model.specs.Lookups.{Sees}
use Rattle.quick_cache_model.specs.Shown.{IsShown}
use Rattle.quick_cache_loading.specs.Fitting.{ClonesFit, FitsQuery}
pub use Rattle.quick_cache_shard.specs.Shared.{PeeksIf}
pub use Rattle.quick_cache_shard.specs.Tests.{Miss}

module _ {K V : Type 0} (stands_for : K → Bool) (is_clone : V → V → Type 0)
    (old : CacheState K V) where
  -- The answer shows a clone of what is there. It is refused only where there is an item, of whose
  -- value the clone failed. A look answers so, and a look-up beside other readers, and both leave
  -- lists and marks as they were.
  pub data Peeks : Result (Option V) Refusal → Type 0 where
    peeks : (found shown : Option V) → Sees stands_for old (λ item. item.value) found
        → IsShown is_clone found shown → Peeks (Ok shown)
    refuses : (place : Place) (before : List (Item K V)) (item : Item K V)
        (after : List (Item K V))
        → IsItemAt stands_for old place before item after → Peeks (Err Refusal.Memory)

-- where clones fit as their values do, a clone that is shown fits a key that the query stands for
abbrev pub ShowsFitting : {K V E : Type 0} → (fits : K → V → Type 0) → (stands_for : K → Bool)
    → (is_clone : V → V → Type 0) → Result (Option V) E → Type 0
ShowsFitting fits stands_for is_clone answer = ClonesFit fits is_clone
    → IfOk answer (λ found. IfSome found (λ value. FitsQuery fits stands_for value))

-- the same of a look with a test
abbrev pub PassesFitting : {K V M E : Type 0} → (fits : K → V → Type 0) → (stands_for : K → Bool)
    → (is_clone : V → V → Type 0) → Result (Result V M) E → Type 0
PassesFitting fits stands_for is_clone answer = ClonesFit fits is_clone
    → IfOk answer (λ found. IfOk found (λ value. FitsQuery fits stands_for value))
