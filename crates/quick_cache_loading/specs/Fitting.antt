-- Values that fit their keys, as a lifecycle says it.
use Rattle.std.specs.Prelude.{◌≡◌, Bool, true, IfSome}
use Rattle.quick_cache_loading.specs.Core.{Life, value_of}
use Rattle.quick_cache_loading.specs.LoadingLaws.{shown_by}
use Rattle.quick_cache_loading.specs.declared.protocol.events.Answer.{Answer}

module _ {K V : Type 0} (fits : K → V → Type 0) where
  -- a clone of a value that fits a key fits it, too
  abbrev pub ClonesFit : (V → V → Type 0) → Type 0
  ClonesFit is_clone = (key : K) (value clone : V) → is_clone value clone → fits key value
      → fits key clone

  -- where clones fit as their values do, the value that is shown fits the key
  abbrev pub ShowsFitting : (V → V → Type 0) → K → Answer V → Type 0
  ShowsFitting is_clone key answer = ClonesFit is_clone
      → IfSome (shown_by answer) (λ value. fits key value)

  -- the value that a life is filled with fits the key
  abbrev pub FilledFits : K → Life V → Type 0
  FilledFits key life = IfSome (value_of life) (λ value. fits key value)

  -- the value fits a key that the query stands for
  pub record FitsQuery (stands_for : K → Bool) (value : V) : Type 0 where
    pub key : K
    pub stands : stands_for key ≡ true
    pub fits_key : fits key value

  -- where clones fit as their values do, the value fits a key that the query stands for
  abbrev pub FitsIfClonesDo : (V → V → Type 0) → (stands_for : K → Bool) → V → Type 0
  FitsIfClonesDo is_clone stands_for value = ClonesFit is_clone → FitsQuery stands_for value
