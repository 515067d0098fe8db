-- What a contract sees of an `Index`: tokens at places, found by a tag and by how far a search
-- goes.
use Rattle.std.specs.Prelude.{◌≡◌, ℕ, ◌-◌, ◌/◌, ◌^◌, ◌<◌, ◌≤◌, min, max, Bool, false, ◌&&◌, ◌||◌, not, ◌==◌, nat_lt, IsTrue, List, [], ◌∷◌}
use Rattle.std.specs.Prelude.{count_by, bit_and, bit_xor, slice_index, refl}
use Rattle.std.specs.Int.NonZero.{non_zero_u32_get as number}
use Rattle.quick_cache_index.specs.declared.index.candidates.Look.{Look}
use Rattle.std.specs.Coded.{Coded, code_by, coded×, coded_ℕ, coded_list}

-- what a look-up reads: the tag and the token of each place, or 0 where it is free, how far from
-- each group its tokens are, and one less than how many groups there are; how far from its home the
-- token of each place is, as far as a byte tells; how many more tokens fit with no allocation, and
-- how many bytes are held
pub record Index : Type 0 where
  pub tags : List ℕ
  pub tokens : List ℕ
  pub distances : List ℕ
  pub reaches : List ℕ
  pub mask : ℕ
  pub room : ℕ
  pub allocated : ℕ

-- an index is stored as the tuple of its fields
abbrev pub index_code : Coded Index
index_code =
    code_by
    (((List ℕ × List ℕ) × (List ℕ × List ℕ)) × (ℕ × (ℕ × ℕ)))
    (coded× (coded× (coded× (coded_list coded_ℕ) (coded_list coded_ℕ))
    (coded× (coded_list coded_ℕ) (coded_list coded_ℕ))) (coded× coded_ℕ (coded× coded_ℕ coded_ℕ)))
    (λ i. (((i.tags, i.tokens), (i.distances, i.reaches)), (i.mask, (i.room, i.allocated))))
    (λ p. record {
      tags = p.0.0.0;
      tokens = p.0.0.1;
      distances = p.0.1.0;
      reaches = p.0.1.1;
      mask = p.1.0;
      room = p.1.1.0;
      allocated = p.1.1.1;
    })
    (λ _. refl)

-- the tag of a hash: its highest byte, or 1 where that is 0
abbrev pub tag_of : ℕ → ℕ
tag_of hash = max (hash / 2 ^ 56) 1

-- the group at which a search for a hash begins
abbrev pub home_of : ℕ → ℕ → ℕ
home_of mask hash = bit_and hash mask

-- how many groups a search from a home reads before that of the position
abbrev pub distance : ℕ → ℕ → ℕ
distance home position = bit_xor home (position / 16)

-- a distance as a byte tells it: 255 is that or more
abbrev pub told : ℕ → ℕ
told far = min far 255

-- a search for the hash reads the group of the position
abbrev pub IsReached : List ℕ → ℕ → ℕ → ℕ → Type 0
IsReached reaches mask hash position =
    distance (home_of mask hash) position ≤ slice_index reaches (home_of mask hash)

-- no token is at the place
abbrev pub is_free : ℕ → Bool
is_free place = place == 0

-- the place has that token
abbrev pub holds : ℕ → ℕ → Bool
holds token place = not (is_free place) && (place == token)

-- whether the token is there
abbrev pub has_token : Index → ℕ → Bool
has_token index token = nat_lt 0 (count_by (holds token) index.tokens)

-- the token is there
abbrev pub HasToken : Index → ℕ → Type 0
HasToken index token = IsTrue (has_token index token)

-- how many tokens are there
abbrev pub token_count : Index → ℕ
token_count index = count_by (λ place. not (is_free place)) index.tokens

-- a search for the hash meets the token, at a place that has the hash's tag and its distance
pub record Leads (index : Index) (hash token : ℕ) : Type 0 where
  pub some : 0 < token
  pub position : ℕ
  pub there : slice_index index.tokens position ≡ token
  pub tag : slice_index index.tags position ≡ tag_of hash
  pub far : slice_index index.distances position
      ≡ told (distance (home_of index.mask hash) position)
  pub reached : IsReached index.reaches index.mask hash position

-- so much room, or room for all the tokens that the index can still take
abbrev pub wanted_room : Index → ℕ → ℕ
wanted_room index additional = min additional (4294967294 - token_count index)

-- no token is there
abbrev pub HasNone : Index → Type 0
HasNone index = (token : ℕ) → has_token index token ≡ false

-- the token came, and the others stay as they were
abbrev pub GainsToken : Index → Index → ℕ → Type 0
GainsToken old new token =
    (other : ℕ) → has_token new other ≡ ((other == token) || has_token old other)

-- the token went, and the others stay as they were
abbrev pub LosesToken : Index → Index → ℕ → Type 0
LosesToken old new token =
    (other : ℕ) → has_token new other ≡ (not (other == token) && has_token old other)

-- whatever hash led to another token than this one leads to it still
abbrev pub KeepsOtherLeads : Index → Index → ℕ → Type 0
KeepsOtherLeads old new token =
    (hash other : ℕ) → ¬ (other ≡ token) → Leads old hash other → Leads new hash other

-- whatever hash led to a token leads to it still
abbrev pub KeepsAllLeads : Index → Index → Type 0
KeepsAllLeads old new = (hash token : ℕ) → Leads old hash token → Leads new hash token

-- these are tokens that are there, in any order, and each to which the hash leads is among them
pub record AreCandidates (index : Index) (hash : ℕ) (tokens : List ℕ) : Type 0 where
  pub all : (token : ℕ) → Leads index hash token → 0 < count_by (λ k. k == token) tokens
  pub only : (token : ℕ) → 0 < count_by (λ k. k == token) tokens → HasToken index token

-- a look at these candidates tells this: the first of them, or that there are none, or nothing
abbrev pub IsSeen : List ℕ → Look → Type 0
IsSeen tokens (Look.At first) = (rest : List ℕ) × (tokens ≡ number first ∷ rest)
IsSeen tokens Look.Nothing = tokens ≡ []
IsSeen tokens Look.Beyond = Unit {0}
