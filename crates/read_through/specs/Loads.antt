-- What a call of a loader may give.
use Rattle.std.specs.Prelude.{◌≡◌, ℕ, ◌<◌, ◌^◌, Result, Ok}
use Rattle.std.specs.Fn.{FnReturns}
use denote.Ref.{Bor}
use denote.Param.Members.{Shared}

module _ {F K R : Type 0} (calls : Shared F (Bor K × (ℕ × Unit {0})) R) (loader : F) where
  -- a call of the loader at a reference to this key, and at this moment, may give this
  pub record Loads (key : K) (moment : ℕ) (given : R) : Type 0 where
    pub shown : Bor K
    pub shows : shown.now ≡ key
    pub says : FnReturns calls loader (shown, (moment, tt)) given

  -- the same at one of the keys of which this is true
  pub record LoadsSome (may : K → Type 0) (moment : ℕ) (given : R) : Type 0 where
    pub key : K
    pub is : may key
    pub loads : Loads key moment given

  -- whatever it gives for a key at a moment is of this source
  abbrev pub LoadsFrom : (K → ℕ → R → Type 0) → Type 0
  LoadsFrom gives = (key : K) (moment : ℕ) (given : R) → moment < 2 ^ 64
      → Loads key moment given → gives key moment given

-- the same where a loader may fail: a value that it gives is of this source
abbrev pub LoadsOkFrom : {F K V E : Type 0} → Shared F (Bor K × (ℕ × Unit {0})) (Result V E) → F
    → (K → ℕ → V → Type 0) → Type 0
LoadsOkFrom {F} {K} {V} calls loader gives = (key : K) (moment : ℕ) (value : V) → moment < 2 ^ 64
    → Loads calls loader key moment (Ok value) → gives key moment value
