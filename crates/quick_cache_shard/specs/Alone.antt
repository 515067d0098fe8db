-- Calls that have a request state of their own.

-- the hooks led a request state of the call's own, a default one at first, to another
pub record IsDoneAlone {S : Type 0} (is_default : S → Type 0) (step : S → S → Type 0) : Type 0 where
  pub first : S
  pub last : S
  pub begins : is_default first
  pub does : step first last
