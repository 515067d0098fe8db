-- What a look-up beside other readers gives out: a clone of what it finds.
use Rattle.std.specs.Prelude.{Bool, true, false, Option, Some, None, Result, Ok, Err}
use Rattle.quick_cache_model.specs.declared.refusal.Refusal.{Refusal}
use Rattle.quick_cache_model.specs.CacheState.{CacheState}
use Rattle.quick_cache_model.specs.Finding.{HasNoItem}
use Rattle.quick_cache_model.specs.Lookups.{Sees}
use Rattle.quick_cache_policy.specs.declared.looking.tested.Miss.{Miss}

module _ {K V : Type 0} (stands_for : K → Bool) (is_clone : V → V → Type 0)
    (state : CacheState K V) where
  -- it is a clone of the value under a key that the query stands for
  pub record IsCloneUnder (clone : V) : Type 0 where
    pub value : V
    pub seen : Sees stands_for state (λ item. item.value) (Some value)
    pub cloned : is_clone value clone

  -- such a clone, or nothing where there is no item
  abbrev pub ShowsClone : Option V → Type 0
  ShowsClone None = HasNoItem stands_for state
  ShowsClone (Some clone) = IsCloneUnder clone

module _ {K V : Type 0} (stands_for : K → Bool) (is_clone : V → V → Type 0)
    (answers : V → Bool → Type 0) (state : CacheState K V) where
  -- The value under the query was shown to a test. One that passes gives a clone, and one that
  -- fails is not cloned. It is refused only where the clone failed of one that passes. Lists and
  -- marks stay as they were.
  pub data PeeksIf : Result (Result V Miss) Refusal → Type 0 where
    passes : (value clone : V) → Sees stands_for state (λ item. item.value) (Some value)
        → answers value true → is_clone value clone → PeeksIf (Ok (Ok clone))
    fails : (value : V) → Sees stands_for state (λ item. item.value) (Some value)
        → answers value false → PeeksIf (Ok (Err Miss.Failed))
    is_absent : HasNoItem stands_for state → PeeksIf (Ok (Err Miss.Absent))
    refuses : (value : V) → Sees stands_for state (λ item. item.value) (Some value)
        → answers value true → PeeksIf (Err Refusal.Memory)
