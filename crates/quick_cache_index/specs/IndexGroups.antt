-- How an `Index` lays out its tokens: places in groups of sixteen, each with a tag. No clause of
-- `Index` cites this module.
use Rattle.std.specs.Prelude.{◌≡◌, ℕ, ◌+◌, ◌-◌, ◌*◌, ◌^◌, ◌<◌, ◌≤◌, not, ◌==◌, min, if◌then◌else◌, List, [], ◌∷◌, zero, suc, length}
use Rattle.std.specs.Prelude.{count_by, filter, filter_map, ◌++◌, Option, Some, None, bit_xor, slice_index, slice_set}
use Rattle.std.specs.Int.{IsPowerOfTwo, bit_at}
use Rattle.quick_cache_index.specs.Index.{tag_of, home_of, distance, told, IsReached, is_free, holds}
use Rattle.quick_cache_index.specs.declared.index.walk.Walk.{Walk}

-- how many of the places have a token
abbrev pub taken_count : List ℕ → ℕ
taken_count tokens = count_by (λ place. not (is_free place)) tokens

-- a reach for each group, and sixteen tags and tokens: of a power of two of groups, or of none
pub record IsGrouped (tags tokens reaches : List ℕ) (mask : ℕ) : Type 0 where
  pub groups : 0 < length reaches → length reaches ≡ mask + 1
  pub sixteen : length tokens ≡ 16 * length reaches
  pub tagged : length tags ≡ length tokens
  pub power : IsPowerOfTwo (mask + 1)
  pub few : mask < 2 ^ 29
  pub near : (group : ℕ) → slice_index reaches group ≤ mask

-- a place has a tag where it has a token, and there alone
pub record IsMatched (tags tokens : List ℕ) : Type 0 where
  pub taken : (position : ℕ) → 0 < slice_index tags position → 0 < slice_index tokens position
  pub bare : (position : ℕ) → slice_index tags position ≡ 0 → slice_index tokens position ≡ 0

-- a distance for each place, and none where there is no tag
pub record HasDistances (tags distances : List ℕ) : Type 0 where
  pub as_long : length distances ≡ length tags
  pub free : (position : ℕ) → slice_index tags position ≡ 0 → slice_index distances position ≡ 0

-- as many tokens as so many groups are made for
abbrev pub capacity_of : ℕ → ℕ
capacity_of groups = min (14 * groups) 4294967294

-- the places and the room of an index
pub record IsSound (tags tokens distances reaches : List ℕ) (mask room : ℕ) : Type 0 where
  pub sized : IsGrouped tags tokens reaches mask
  pub matched : IsMatched tags tokens
  pub distant : HasDistances tags distances
  pub counted : room + taken_count tokens ≡ capacity_of (length reaches)
  pub once : (token : ℕ) → count_by (holds token) tokens ≤ 1

-- no reach got shorter
abbrev pub ReachesGrow : List ℕ → List ℕ → Type 0
ReachesGrow old new =
    (length new ≡ length old) × ((group : ℕ) → slice_index old group ≤ slice_index new group)

-- the token came to a free place, under the tag and the distance of the hash, where a search for
-- that finds it
pub record TakesPlace (tags tags' tokens tokens' distances distances' reaches reaches' : List ℕ)
    (mask hash token : ℕ) : Type 0 where
  pub position : ℕ
  pub inside : position < length tokens
  pub free : slice_index tokens position ≡ 0
  pub token_is : tokens' ≡ slice_set tokens position token
  pub tag_is : tags' ≡ slice_set tags position (tag_of hash)
  pub far_is : distances' ≡ slice_set distances position (told (distance (home_of mask hash) position))
  pub reached : IsReached reaches' mask hash position
  pub grow : ReachesGrow reaches reaches'

-- what is as far from a home as the distances tell, and was reached from there, is reached still
abbrev pub KeepsReached : (distances old new : List ℕ) → Type 0
KeepsReached distances old new =
    (home position : ℕ) → slice_index distances position ≡ told (distance home position)
    → distance home position ≤ slice_index old home → distance home position ≤ slice_index new home

-- a place of the group has that distance
abbrev pub HasAtDistance : (distances : List ℕ) → (group far : ℕ) → Type 0
HasAtDistance distances group far =
    (lane : ℕ) × (lane < 16) × (slice_index distances (16 * group + lane) ≡ far)

-- so many positions from this one on
abbrev pub positions_from : ℕ → ℕ → List ℕ
positions_from position zero = []
positions_from position (suc count) = position ∷ positions_from (position + 1) count

-- the positions of a group
abbrev pub group_positions : ℕ → List ℕ
group_positions group = positions_from (16 * group) 16

-- those of them that have their bit set
abbrev pub lane_positions : ℕ → ℕ → List ℕ
lane_positions group lanes =
    filter (λ position. bit_at lanes (position - 16 * group) == 1) (group_positions group)

-- the positions of so many groups, by their distance from the home, from `step` on
abbrev pub positions_along : ℕ → ℕ → ℕ → List ℕ
positions_along home step zero = []
positions_along home step (suc count) =
    group_positions (bit_xor home step) ++ positions_along home (step + 1) count

-- the distance of the group that a walk reads last
abbrev pub reach_of : Walk → ℕ
reach_of walk = slice_index walk.reaches.now walk.home

-- the positions that a walk has not looked at
abbrev pub positions_left : Walk → List ℕ
positions_left walk =
    lane_positions (bit_xor walk.home walk.step) walk.lanes
    ++ positions_along walk.home (walk.step + 1) (reach_of walk - walk.step)

-- the token at a place, where that place has the tag of the hash
abbrev pub tagged_token : List ℕ → List ℕ → ℕ → ℕ → Option ℕ
tagged_token tags tokens hash position =
    if slice_index tags position == tag_of hash then Some (slice_index tokens position) else None

-- the tokens of such places that a walk has not met
abbrev pub candidates_left : Walk → List ℕ
candidates_left walk =
    filter_map (tagged_token walk.tags.now walk.tokens.now walk.hash) (positions_left walk)

-- a walk looks at places that there are and have tokens
pub record IsWalk (walk : Walk) : Type 0 where
  pub group : walk.group ≡ bit_xor walk.home walk.step
  pub here : 0 < walk.lanes → 16 * bit_xor walk.home walk.step + 16 ≤ length walk.tokens.now
  pub later : (step : ℕ) → walk.step < step → step ≤ reach_of walk
      → 16 * bit_xor walk.home step + 16 ≤ length walk.tokens.now
  pub few : walk.lanes < 2 ^ 16
  pub short : length walk.tokens.now ≤ 2 ^ 33
  pub lit : (lane : ℕ) → bit_at walk.lanes lane ≡ 1
      → slice_index walk.tags.now (16 * bit_xor walk.home walk.step + lane) ≡ tag_of walk.hash
  pub tagged : length walk.tags.now ≡ length walk.tokens.now
  pub taken : (position : ℕ) → 0 < slice_index walk.tags.now position
      → 0 < slice_index walk.tokens.now position

-- each token that a search for the hash meets is among these
abbrev pub CoversTagged : List ℕ → List ℕ → List ℕ → ℕ → ℕ → List ℕ → Type 0
CoversTagged tags tokens reaches mask hash found =
    (position : ℕ) → position < length tokens → slice_index tags position ≡ tag_of hash
    → IsReached reaches mask hash position
    → 0 < count_by (λ t. t == slice_index tokens position) found
