-- A walk by tokens, which gives again and again the item of the least token above the last one, with
-- any steps between that move no item that stays.
use Rattle.std.specs.Prelude.{◌≡◌, ℕ, ◌<◌, ◌≤◌, Bool, true, List, [], ◌∷◌}
use Rattle.std.specs.List.{Contains, count_by}
use Rattle.quick_cache_policy.specs.Places.{KeepsPlaces}

module _ {K : Type 0} where
  -- the place of the least token above that one
  pub record IsNextPlace (places : List (ℕ × K)) (after : ℕ) (place : ℕ × K) : Type 0 where
    pub there : Contains places place
    pub above : after < place.0
    pub least : (other : ℕ × K) → Contains places other → after < other.0 → place.0 ≤ other.0

  -- no place is above that token
  abbrev pub EndsAt : List (ℕ × K) → (after : ℕ) → Type 0
  EndsAt places after = (other : ℕ × K) → Contains places other → other.0 ≤ after

  -- each token has one key, and each key one token
  pub record ArePlaces (equal : K → K → Bool) (places : List (ℕ × K)) : Type 0 where
    pub one_key : (place other : ℕ × K) → Contains places place → Contains places other
        → place.0 ≡ other.0 → place.1 ≡ other.1
    pub one_token : KeepsPlaces equal places places

  -- the key is among them
  pub record HasKey (equal : K → K → Bool) (key : K) (places : List (ℕ × K)) : Type 0 where
    pub are_places : ArePlaces equal places
    pub place : ℕ × K
    pub there : Contains places place
    pub is : equal key place.1 ≡ true

  -- What a walk gives from behind a token to its end, while a key is there all along: it is at its
  -- end, or it gives the next place, or a step comes between.
  pub data WalksBy (equal : K → K → Bool) (key : K) : (now : List (ℕ × K)) (after : ℕ)
      (given : List (ℕ × K)) → Type 0 where
    ends : (now : List (ℕ × K)) (after : ℕ) → HasKey equal key now → EndsAt now after
        → WalksBy equal key now after []
    gives : (now : List (ℕ × K)) (after : ℕ) (place : ℕ × K) (given : List (ℕ × K))
        → HasKey equal key now → IsNextPlace now after place
        → WalksBy equal key now place.0 given → WalksBy equal key now after (place ∷ given)
    steps : (now next : List (ℕ × K)) (after : ℕ) (given : List (ℕ × K)) → HasKey equal key now
        → KeepsPlaces equal now next → WalksBy equal key next after given
        → WalksBy equal key now after given

  -- the key is given exactly once by each walk from the beginning, where no item has the token 0
  abbrev pub GivesOnce : (equal : K → K → Bool) → (key : K) → Type 0
  GivesOnce equal key = (now given : List (ℕ × K)) → (stays : HasKey equal key now)
      → 0 < stays.place.0 → WalksBy equal key now 0 given
      → count_by (λ place. equal key place.1) given ≡ 1
