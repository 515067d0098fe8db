-- Predicates of a caller that may be called where a value fits.
use Rattle.std.specs.Prelude.{Bool}
use Rattle.std.specs.Fn.{FnOnceTakesAt}
use denote.Ref.{Bor}
use denote.Param.Members.{Shared, Once}
use Rattle.quick_cache_policy.specs.Predicates.{MayBeAsked}
use Rattle.quick_cache_loading.specs.Fitting.{FitsQuery}

module _ {F K V : Type 0} (fits : K → V → Type 0) where
  -- a predicate may be called at each pair that fits
  abbrev pub MayBeAskedOfFitting : Shared F (Bor K × (Bor V × Unit {0})) Bool → F → Type 0
  MayBeAskedOfFitting calls keep =
      (key : K) (value : V) → fits key value → MayBeAsked calls keep key value

  -- a predicate that is called once may be called at each value that fits a key of the query
  abbrev pub MayBeAskedOfFittingUnder : (K → Bool) → Once F (Bor V × Unit {0}) Bool → F → Type 0
  MayBeAskedOfFittingUnder stands_for calls wanted =
      (value : V) → FitsQuery fits stands_for value → FnOnceTakesAt calls wanted value
