-- The places of a `Table`, in a list of hashes and a list of tokens. No public clause cites this
-- module.
use Rattle.std.specs.Prelude.{ℕ, List, [], ◌∷◌, refl}
use Rattle.std.specs.Coded.{Coded, code_by, coded×, coded_ℕ, coded_list}

-- a pair at a place, or none where the token is 0
pub record Place : Type 0 where
  pub hash : ℕ
  pub token : ℕ

-- a place is stored as the tuple of its fields
abbrev pub place_code : Coded Place
place_code =
    code_by
    (ℕ × ℕ)
    (coded× coded_ℕ coded_ℕ)
    (λ place. (place.hash, place.token))
    (λ p. record { hash = p.0; token = p.1 })
    (λ _. refl)

-- places, and how many bytes they hold
pub record Places : Type 0 where
  pub items : List Place
  pub allocated : ℕ

-- places are stored as the tuple of their fields
abbrev pub places_code : Coded Places
places_code =
    code_by
    (List Place × ℕ)
    (coded× (coded_list place_code) coded_ℕ)
    (λ places. (places.items, places.allocated))
    (λ p. record { items = p.0; allocated = p.1 })
    (λ _. refl)

-- the places of these hashes and these tokens
abbrev pub places_of : List ℕ → List ℕ → List Place
places_of [] tokens = []
places_of (hash ∷ hashes) [] = []
places_of (hash ∷ hashes) (token ∷ tokens) =
    record { hash = hash; token = token } ∷ places_of hashes tokens
