-- What a call answers whose load may fail.
use Rattle.std.specs.Prelude.{⊤, Bool, true, false, Result, Ok, Err}
use Rattle.read_through.specs.declared.given.Given.{Given}

module _ {V E : Type 0} where
  -- of a value that lives this is true
  abbrev pub IfFresh : Result (Given V E) E → (V → Type 0) → Type 0
  IfFresh (Ok (Given.Fresh value)) P = P value
  IfFresh _ P = ⊤

  -- of an older value this is true
  abbrev pub IfStale : Result (Given V E) E → (V → Type 0) → Type 0
  IfStale (Ok (Given.Stale value error)) P = P value
  IfStale (Ok (Given.Unasked value)) P = P value
  IfStale _ P = ⊤

  -- the loader was not asked for an older value
  abbrev pub is_unasked : Result (Given V E) E → Bool
  is_unasked (Ok (Given.Unasked value)) = true
  is_unasked _ = false

  -- of the error of a load this is true
  abbrev pub IfFailed : Result (Given V E) E → (E → Type 0) → Type 0
  IfFailed (Ok (Given.Stale value error)) P = P error
  IfFailed (Err error) P = P error
  IfFailed _ P = ⊤
