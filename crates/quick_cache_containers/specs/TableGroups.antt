-- How a `Table` lays out its pairs: places in groups of sixteen, each with a tag. No public clause
-- cites this module.
use Rattle.std.specs.Prelude.{◌≡◌, ℕ, ◌+◌, ◌-◌, ◌*◌, ◌^◌, ◌<◌, ◌≤◌, Bool, ◌&&◌, not, ◌==◌, if◌then◌else◌, List, length, count_by}
use Rattle.std.specs.Prelude.{filter_map, ◌++◌, Option, Some, None, bit_xor, slice_index, slice_index_or}
use Rattle.std.specs.Int.{IsPowerOfTwo, bit_at}
use Rattle.quick_cache_index.specs.Index.{tag_of, home_of, IsReached}
use Rattle.quick_cache_index.specs.IndexGroups.{capacity_of, lane_positions, positions_along}
use Rattle.quick_cache_containers.specs.Table.{is_pair}
use Rattle.quick_cache_containers.specs.Places.{Place}
use Rattle.quick_cache_containers.specs.declared.table.walk.Walk.{Walk}

-- the hash at a place
abbrev pub hash_at : Place → ℕ
hash_at place = place.hash

-- the place has no pair
abbrev pub is_free : Place → Bool
is_free place = place.token == 0

-- the pair at a place, if it has one
abbrev pub place_pair : Place → Option (ℕ × ℕ)
place_pair place = if is_free place then None else Some (hash_at place, place.token)

-- the pairs, by their places
abbrev pub pairs_of : List Place → List (ℕ × ℕ)
pairs_of places = filter_map place_pair places

-- the place has the pair of that hash and that token
abbrev pub holds_pair : ℕ → ℕ → Place → Bool
holds_pair hash token place =
    not (is_free place) && ((hash_at place == hash) && (place.token == token))

-- a place without a pair
abbrev pub empty_place : Place
empty_place = record { hash = 0; token = 0 }

-- the place at a position
abbrev pub place_at : List Place → ℕ → Place
place_at places position = slice_index_or places position empty_place

-- a reach for each group, and sixteen tags and places: of a power of two of groups, or of none
pub record IsGrouped (tags : List ℕ) (places : List Place) (reaches : List ℕ)
    (mask : ℕ) : Type 0 where
  pub groups : 0 < length reaches → length reaches ≡ mask + 1
  pub sixteen : length places ≡ 16 * length reaches
  pub tagged : length tags ≡ length places
  pub power : IsPowerOfTwo (mask + 1)
  pub few : mask < 2 ^ 29
  pub near : (group : ℕ) → slice_index reaches group ≤ mask

-- a pair stands at the position under its tag, and a search finds it there
pub record IsHousedAt (tags reaches : List ℕ)
    (mask : ℕ) (place : Place) (position : ℕ) : Type 0 where
  pub taken : 0 < place.token
  pub tag : slice_index tags position ≡ tag_of (hash_at place)
  pub reached : IsReached reaches mask (hash_at place) position

-- where there is a tag, its pair is housed
pub record IsHoused (tags : List ℕ) (places : List Place) (reaches : List ℕ)
    (mask : ℕ) : Type 0 where
  pub sized : IsGrouped tags places reaches mask
  pub housed : (position : ℕ) → position < length places → 0 < slice_index tags position
      → IsHousedAt tags reaches mask (place_at places position) position

-- the places below `count` that have no tag have no pair
abbrev pub IsBareBelow : List ℕ → List Place → ℕ → Type 0
IsBareBelow tags places count =
    (position : ℕ) → position < count → slice_index tags position ≡ 0
    → (place_at places position).token ≡ 0

-- every pair is housed
pub record IsWhole (tags : List ℕ) (places : List Place) (reaches : List ℕ)
    (mask : ℕ) : Type 0 where
  pub pairs : IsHoused tags places reaches mask
  pub bare : IsBareBelow tags places (length places)

-- the places, the length and the pairs of a table
pub record IsSound (tags : List ℕ) (places : List Place) (reaches : List ℕ)
    (mask len : ℕ) : Type 0 where
  pub whole : IsWhole tags places reaches mask
  pub counted : len ≡ length (pairs_of places)
  pub load : len ≤ capacity_of (length reaches)
  pub once : (hash token : ℕ) → count_by (holds_pair hash token) places ≤ 1

-- `more` has the pairs of `fewer` and the one of that hash and that token
pub record HasOneMore (fewer more : List Place) (hash token : ℕ) : Type 0 where
  pub places : length more ≡ length fewer
  pub pairs : (h k : ℕ) → count_by (holds_pair h k) more
      ≡ count_by (holds_pair h k) fewer + (if is_pair h k (hash, token) then 1 else 0)
  pub taken : length (pairs_of more) ≡ length (pairs_of fewer) + 1

-- both have the same pairs
pub record HasSamePairs (old new : List Place) : Type 0 where
  pub pairs : (h k : ℕ) → count_by (holds_pair h k) new ≡ count_by (holds_pair h k) old
  pub taken : length (pairs_of new) ≡ length (pairs_of old)

-- a pair of that home is in the group
abbrev pub HasPairOf : List Place → ℕ → ℕ → ℕ → Type 0
HasPairOf places mask home group =
    (lane : ℕ) × (lane < 16)
    × let place = place_at places (16 * group + lane) in
    (0 < place.token) × (home_of mask (hash_at place) ≡ home)

-- the token at a place, where its pair has that hash
abbrev pub token_of : List Place → ℕ → ℕ → Option ℕ
token_of places hash position =
    let place = place_at places position in
    if not (is_free place) && (hash_at place == hash) then Some place.token else None

-- the tokens of that hash at these positions
abbrev pub tokens_at : List Place → ℕ → List ℕ → List ℕ
tokens_at places hash positions = filter_map (token_of places hash) positions

-- the distance of the group that a walk reads last
abbrev pub reach_of : Walk → ℕ
reach_of walk = slice_index walk.reaches.now walk.home

-- the positions that a walk has not looked at
abbrev pub positions_left : Walk → List ℕ
positions_left walk =
    lane_positions (bit_xor walk.home walk.step) walk.lanes
    ++ positions_along walk.home (walk.step + 1) (reach_of walk - walk.step)

-- the tokens that a walk has not met
abbrev pub tokens_left : Walk → List ℕ
tokens_left walk = tokens_at walk.places walk.hash (positions_left walk)

-- a walk looks at places that there are and have pairs, and passes none of its hash by
pub record IsWalk (walk : Walk) : Type 0 where
  pub here : 0 < walk.lanes → 16 * bit_xor walk.home walk.step + 16 ≤ length walk.places
  pub later : (step : ℕ) → walk.step < step → step ≤ reach_of walk
      → 16 * bit_xor walk.home step + 16 ≤ length walk.places
  pub few : walk.lanes < 2 ^ 16
  pub short : length walk.places ≤ 2 ^ 33
  pub lit : (lane : ℕ) → bit_at walk.lanes lane ≡ 1
      → slice_index walk.tags.now (16 * bit_xor walk.home walk.step + lane) ≡ tag_of walk.hash
  pub tagged : length walk.tags.now ≡ length walk.places
  pub taken : (position : ℕ) → position < length walk.places
      → 0 < slice_index walk.tags.now position → 0 < (place_at walk.places position).token
  pub tags : (position token : ℕ) → token_of walk.places walk.hash position ≡ Some token
      → slice_index walk.tags.now position ≡ tag_of walk.hash

-- these are the tokens of the pairs of that hash
abbrev pub AreTokensOf : List Place → ℕ → List ℕ → Type 0
AreTokensOf places hash tokens =
    (token : ℕ) → count_by (λ t. t == token) tokens ≡ count_by (holds_pair hash token) places
