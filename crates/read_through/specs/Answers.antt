-- What a loader's values are, and what is answered.
use Rattle.std.specs.Prelude.{ℕ, Bool, IsTrue}
use Rattle.quick_cache_expiring.specs.Moments.{IsFresh, IsWithin}

module _ {K V : Type 0} (gives : K → ℕ → V → Type 0) where
  -- the source gives this value for an equal key at the moment
  pub record IsOf (equal : K → K → Bool) (asked : K) (moment : ℕ) (value : V) : Type 0 where
    pub key : K
    pub same : IsTrue (equal asked key)
    pub gave : gives key moment value

  module _ (equal : K → K → Bool) (asked : K) (life_of : V → ℕ → ℕ) where
    -- Who asks for the key at this time is answered this value: the source's, of some moment, and
    -- it is fresh by its life.
    pub record Answers (now : ℕ) (value : V) : Type 0 where
      pub moment : ℕ
      pub source : IsOf equal asked moment value
      pub fresh : IsFresh (life_of value moment) moment now

    -- Where a load failed, it is answered this value: the source's, of some moment, and its life
    -- and the grace are not over.
    pub record AnswersLate (grace now : ℕ) (value : V) : Type 0 where
      pub moment : ℕ
      pub source : IsOf equal asked moment value
      pub within : IsWithin (life_of value moment) grace moment now

  -- who asks for a key that the query stands for is answered this value, by the life of the query
  pub record AnswersFor (equal : K → K → Bool) (stands_for : K → Bool) (life_of : V → ℕ → ℕ)
      (now : ℕ) (value : V) : Type 0 where
    pub key : K
    pub stands : IsTrue (stands_for key)
    pub answers : Answers equal key life_of now value

  -- a clone of what the source gives is what the source gives
  abbrev pub GivesClones : (V → V → Type 0) → Type 0
  GivesClones is_clone = (key : K) (moment : ℕ) (value clone : V) → is_clone value clone
      → gives key moment value → gives key moment clone
