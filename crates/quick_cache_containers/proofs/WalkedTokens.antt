-- What a walk over the groups of a hash meets: each pair of that hash, once.
use Rattle.std.proofs.Common.{◌≡◌, ◌≢◌, ℕ, suc, ◌+◌, ◌-◌, ◌*◌, ◌/◌, ◌^◌, ◌<◌, ◌≤◌, true, false, cond, not, ◌&&◌, eqb, List, [], ◌∷◌, ◌++◌}
use Rattle.std.proofs.Common.{length, map, get_or, Option, Some, None, sym, ap, subst, ◌∙◌, inl, inr, arith, count_by, bit_and, bit_xor}
use Rattle.std.specs.Int.Bits.{xor_zero_r}
use Rattle.std.specs.Int.{trailing_zeros, w64}
use Rattle.std.specs.List.{cons_option, filter_map}
use Rattle.std.proofs.lemmas.Bool.Decides.{leb_tells}
use Rattle.std.proofs.lemmas.Bool.{eqb-true, eq-eqb, ne_eqb}
use Rattle.std.proofs.lemmas.Nat.{xor_lt, and_le_r}
use Rattle.std.specs.Simd.Lanes.{chunk, mask_l}
use Rattle.std.proofs.lemmas.List.{get_or_past}
use Rattle.std.proofs.lemmas.List.Elements.{filter_map-append}
use Rattle.std.proofs.lemmas.List.Sums.{sum_by-cons}
use Rattle.quick_cache_containers.specs.Places.{Place}
use Rattle.quick_cache_containers.specs.declared.table.walk.Walk.{Walk}
use Rattle.quick_cache_index.specs.Index.{tag_of, home_of}
use Rattle.quick_cache_index.specs.IndexGroups.{group_positions, lane_positions, positions_along}
use Rattle.quick_cache_containers.specs.TableGroups.{hash_at, is_free, holds_pair, place_at, empty_place, IsHousedAt, IsWhole, token_of}
use Rattle.quick_cache_containers.specs.TableGroups.{tokens_at, reach_of, positions_left, tokens_left, IsWalk, AreTokensOf}
use Rattle.quick_cache_index.proofs.CountedTokens.{bool_tells, equal_or_not, bit}
use Rattle.quick_cache_containers.proofs.CountedPlaces.{weigh, count_by-tokens_at, holds_pair-hash, and_right}
use Rattle.quick_cache_index.proofs.GroupLanes.{lane_positions-first, lane_positions-none, lanes-few, lit-tag, given-lanes}
use Rattle.quick_cache_index.proofs.GroupLanes.{trailing_zeros-lt, trailing_zeros-IsLowestBit, bit_at-rest, some_none}
use Rattle.quick_cache_index.proofs.Distances.{xor-back}
use Rattle.quick_cache_containers.proofs.GroupCounts.{total, total-more, total-xor, total-groups, total-along, weigh-none, count_by-total}

-- the token at a place: there is a pair of that hash
token_of-some : (places : List Place) (hash position token : ℕ)
    → token_of places hash position ≡ Some token
    → (is_free (place_at places position) ≡ false) × (hash_at (place_at places position) ≡ hash)
token_of-some places hash position token has =
    let place = place_at places position in
    elim (bool_tells (not (is_free place) && (eqb (hash_at place) hash))) [
      | inl holds ↦
          elim (bool_tells (is_free place)) [
            | inl free ↦
                let contrary : false ≡ true =
                sym (ap (λ b. not b && (eqb (hash_at place) hash)) free) ∙ holds in
                absurd (cc)
            | inr taken ↦ (
              taken,
              eqb-true (hash_at place) hash
                  (and_right (not (is_free place)) (eqb (hash_at place) hash) holds),
            )
          ]
      | inr fails ↦
          let none : None ≡ Some token =
          sym (ap (λ b. cond b (Some place.token) None) fails) ∙ has in
          absurd (cc)
    ]

-- a place that is not free is one of the places
taken-inside : (places : List Place) (position : ℕ) → is_free (place_at places position) ≡ false
    → position < length places
taken-inside places position taken =
    elim (leb_tells (length places) position) [
      | inl r ↦
          let past : true ≡ false =
          sym (ap is_free (get_or_past places position empty_place r.1)) ∙ taken in
          absurd (cc)
      | inr r ↦ omega (arith, r.1)
    ]

-- a pair of a whole table is housed
pub IsHousedAt-taken : (tags : List ℕ) (places : List Place) (reaches : List ℕ) (mask position : ℕ)
    → IsWhole tags places reaches mask → is_free (place_at places position) ≡ false
    → (position < length places) × IsHousedAt tags reaches mask (place_at places position) position
IsHousedAt-taken tags places reaches mask position whole taken =
    let inside = taken-inside places position taken in
    elim (equal_or_not (get_or tags position 0) 0) [
      | inl none ↦
          let free : true ≡ false =
          sym (eq-eqb (place_at places position).token 0 (whole.bare position inside none)) ∙
          taken in
          absurd (cc)
      | inr some ↦ (inside, whole.pairs.housed position inside (omega arith))
    ]

-- and so each token of a hash has its tag
pub tagged-whole : (tags : List ℕ) (places : List Place) (reaches : List ℕ) (mask hash : ℕ)
    → IsWhole tags places reaches mask → (position token : ℕ)
    → token_of places hash position ≡ Some token → get_or tags position 0 ≡ tag_of hash
tagged-whole tags places reaches mask hash whole position token has =
    let is = token_of-some places hash position token has in
    let at = IsHousedAt-taken tags places reaches mask position whole is.0 in
    at.1.tag ∙ ap tag_of is.1

-- no group past the reach of a home has a pair of that home
weigh-past : (tags : List ℕ) (places : List Place) (reaches : List ℕ) (mask hash token d : ℕ)
    → IsWhole tags places reaches mask → get_or reaches (home_of mask hash) 0 < d → weigh
    (λ p. bit (holds_pair hash token (place_at places p)))
    (group_positions (bit_xor (home_of mask hash) d)) ≡ 0
weigh-past tags places reaches mask hash token d whole past =
    let home = home_of mask hash in
    weigh-none (λ p. bit (holds_pair hash token (place_at places p))) (16 * bit_xor home d) 16
    (λ i less.
    let position : ℕ = 16 * bit_xor home d + i in
    elim (bool_tells (holds_pair hash token (place_at places position))) [
      | inl holds ↦
          let is = holds_pair-hash hash token (place_at places position) holds in
          let at = IsHousedAt-taken tags places reaches mask position whole is.0 in
          let group : position / 16 ≡ bit_xor home d = omega arith in
          let far : bit_xor home (position / 16) ≡ d = ap (bit_xor home) group ∙ xor-back home d in
          let near : bit_xor home (position / 16) ≤ get_or reaches home 0 =
          subst (λ (h : ℕ). bit_xor (home_of mask h) (position / 16) ≤ get_or reaches
          (home_of mask h) 0) is.1 at.1.reached in
          absurd (omega arith)
      | inr fails ↦ ap bit fails
    ])

-- a walk from a home to its reach meets each pair of a hash as often as it is there
pub weigh-along : (tags : List ℕ) (places : List Place) (reaches : List ℕ) (mask hash token : ℕ)
    → IsWhole tags places reaches mask → 0 < length reaches → weigh
    (λ p. bit (holds_pair hash token (place_at places p)))
    (positions_along (home_of mask hash) 0 (suc (get_or reaches (home_of mask hash) 0))) ≡ count_by
    (holds_pair hash token) places
weigh-along tags places reaches mask hash token whole some =
    let sized = whole.pairs.sized in
    let home = home_of mask hash in
    let reach = get_or reaches home 0 in
    let f : ℕ → ℕ = λ p. bit (holds_pair hash token (place_at places p)) in
    let by_group : ℕ → ℕ = λ group. weigh f (group_positions group) in
    let by_distance : ℕ → ℕ = λ d. weigh f (group_positions (bit_xor home d)) in
    let groups = sized.groups some in
    let power = sized.power in
    let size : length places ≡ 16 * (mask + 1) = omega (arith, sized.sixteen, groups) in
    let low = and_le_r hash mask in
    let walked : weigh f (positions_along home 0 (suc reach)) ≡ total by_distance (suc reach) =
    omega
    (arith, total-along f home 0 (suc reach), ap (total by_distance) (zero_add (suc reach))) in
    let all : suc reach + (mask - reach) ≡ mask + 1 = omega (arith, sized.near home) in
    let rest =
    total-more by_distance (suc reach) (mask - reach)
    (λ d behind less. weigh-past tags places reaches mask hash token d whole (omega arith)) in
    let flipped : total by_distance (mask + 1) ≡ total by_group (mask + 1) =
    ap (total by_distance) power.1 ∙ total-xor power.0 home by_group (omega (arith, power.1, low)) ∙
    ap (total by_group) (sym power.1) in
    walked ∙ sym rest ∙ ap (total by_distance) all ∙ flipped ∙ sym (total-groups f (mask + 1)) ∙ ap
    (total f) (sym size) ∙ sym (count_by-total (holds_pair hash token) places)
  where
    zero_add : (n : ℕ) → 0 + n ≡ n
    zero_add n = omega arith

-- a position that has a token of the hash
tokens_at-take : (places : List Place) (hash p : ℕ) (rest : List ℕ)
    → hash_at (place_at places p) ≡ hash → 0 < (place_at places p).token
    → tokens_at places hash (p ∷ rest) ≡ (place_at places p).token ∷ tokens_at places hash rest
tokens_at-take places hash p rest same some =
    let place = place_at places p in
    let taken : is_free place ≡ false = ne_eqb place.token 0 (λ e. omega (arith, some, e)) in
    let meets : (not (is_free place) && (eqb (hash_at place) hash)) ≡ true =
    ap (λ b. not b && (eqb (hash_at place) hash)) taken ∙ eq-eqb (hash_at place) hash same in
    ap (λ b. cons_option (cond b (Some place.token) None) (tokens_at places hash rest)) meets

-- a position that has none
tokens_at-skip : (places : List Place) (hash p : ℕ) (rest : List ℕ)
    → (hash_at (place_at places p) ≡ hash → (place_at places p).token ≡ 0)
    → tokens_at places hash (p ∷ rest) ≡ tokens_at places hash rest
tokens_at-skip places hash p rest other =
    let gives : token_of places hash p ≡ None = some_none (token_of places hash p) (λ token has.
    let is = token_of-some places hash p token has in
    let free : true ≡ false = sym (eq-eqb (place_at places p).token 0 (other is.1)) ∙ is.0 in
    absurd (cc)) in
    ap (λ o. cons_option o (tokens_at places hash rest)) gives

-- a walk that has a lane to look at: the lowest lane's position, and the walk behind it
pub record LooksAtLane (walk next : Walk) (position : ℕ) : Type 0 where
  pub inside : position < length walk.places
  pub still : IsWalk next
  pub taken : 0 < (place_at walk.places position).token
  pub take : hash_at (place_at walk.places position) ≡ walk.hash
      → tokens_left walk ≡ (place_at walk.places position).token ∷ tokens_left next
  pub skip : hash_at (place_at walk.places position) ≢ walk.hash
      → tokens_left walk ≡ tokens_left next
  pub fewer : next.lanes < walk.lanes

-- the walk behind the lowest lane
abbrev pub behind_lane : Walk → Walk
behind_lane walk = record walk { lanes = bit_and walk.lanes (walk.lanes - 1) }

-- the position of the lowest lane
abbrev pub lane_position : Walk → ℕ
lane_position walk = 16 * bit_xor walk.home walk.step + trailing_zeros w64 walk.lanes

-- a tag is not 0
pub tag_of-some : (hash : ℕ) → 0 < tag_of hash
tag_of-some hash = omega arith

-- a lane is looked at, and the walk goes on behind it
pub looks_at_lane : (walk : Walk) → IsWalk walk → 0 < walk.lanes
    → LooksAtLane walk (behind_lane walk) (lane_position walk)
looks_at_lane walk is some =
    let lanes : ℕ = bit_and walk.lanes (walk.lanes - 1) in
    let fewer : lanes ≤ walk.lanes - 1 = and_le_r walk.lanes (walk.lanes - 1) in
    let few : walk.lanes < 2 ^ 16 = is.few in
    let group : ℕ = bit_xor walk.home walk.step in
    let behind : List ℕ = positions_along walk.home (walk.step + 1) (reach_of walk - walk.step) in
    let first : tokens_left walk ≡ tokens_at walk.places walk.hash
    (lane_position walk ∷ (lane_positions group lanes ++ behind)) =
    ap (λ ps. tokens_at walk.places walk.hash (ps ++ behind))
    (lane_positions-first group walk.lanes some few) in
    let lowest = trailing_zeros-IsLowestBit walk.lanes some (omega arith) in
    let inside : lane_position walk < length walk.places =
    omega (arith, is.here some, trailing_zeros-lt walk.lanes some few) in
    let taken =
    is.taken (lane_position walk) inside
    (omega (arith, is.lit (trailing_zeros w64 walk.lanes) lowest.set, tag_of-some walk.hash)) in
    record {
      inside = inside;
      still = record {
        here = λ more. is.here some;
        later = is.later;
        few = omega arith;
        lit =
            λ lane set. is.lit lane
            (bit_at-rest walk.lanes (trailing_zeros w64 walk.lanes) lane lowest set);
        short = is.short;
        tagged = is.tagged;
        taken = is.taken;
        tags = is.tags;
      };
      taken = taken;
      take =
          λ same. first ∙ tokens_at-take walk.places walk.hash (lane_position walk)
          (lane_positions group lanes ++ behind) same taken;
      skip =
          λ other. first ∙ tokens_at-skip walk.places walk.hash (lane_position walk)
          (lane_positions group lanes ++ behind) (λ same. absurd (other same));
      fewer = omega arith;
    }

-- a walk without a lane to look at that has read its last group
given_left-end : (give : ℕ → Option ℕ) (walk : Walk) → walk.lanes ≡ 0 → reach_of walk ≤ walk.step
    → filter_map give (positions_left walk) ≡ []
given_left-end give walk none last =
    let group : ℕ = bit_xor walk.home walk.step in
    let behind : ℕ → List ℕ = λ n. positions_along walk.home (walk.step + 1) n in
    let ended : reach_of walk - walk.step ≡ 0 = omega arith in
    ap (λ lanes. filter_map give (lane_positions group lanes ++ behind (reach_of walk - walk.step)))
    none
    ∙ ap (λ ps. filter_map give (ps ++ behind (reach_of walk - walk.step)))
    (lane_positions-none group)
    ∙ ap (λ n. filter_map give (behind n)) ended

pub tokens_left-end : (walk : Walk) → walk.lanes ≡ 0 → reach_of walk ≤ walk.step
    → tokens_left walk ≡ []
tokens_left-end walk none last =
    given_left-end (token_of walk.places walk.hash) walk none last

-- the walk that reads the next group, with these lanes to look at
abbrev pub at_next_group : Walk → ℕ → Walk
at_next_group walk lanes = record walk { step = walk.step + 1; lanes = lanes }

-- the next group is there
pub group-inside : (walk : Walk) → IsWalk walk → walk.step < reach_of walk
    → 16 * bit_xor walk.home (walk.step + 1) + 16 ≤ length walk.tags.now
group-inside walk is more =
    omega (arith, is.later (walk.step + 1) (omega arith) (omega arith), is.tagged)

-- a walk that goes on to the next group has left what it had left
pub record ReadsNextGroup (walk : Walk) (lanes : ℕ) : Type 0 where
  pub still : IsWalk (at_next_group walk lanes)
  pub left : tokens_left walk ≡ tokens_left (at_next_group walk lanes)
  pub few : lanes < 65536

-- what only places of the tag give, where the lanes are those of the tag
given_left-next : (give : ℕ → Option ℕ) (walk : Walk) → IsWalk walk → walk.step < reach_of walk
    → walk.lanes ≡ 0 → ((position token : ℕ) → give position ≡ Some token
    → get_or walk.tags.now position 0 ≡ tag_of walk.hash)
    → filter_map give (positions_left walk) ≡ filter_map give (positions_left (at_next_group walk
    (mask_l (map (λ t. eqb t (tag_of walk.hash)) (chunk (16 * bit_xor walk.home (walk.step + 1)) 16 walk.tags.now)))))
given_left-next give walk is more none tagged =
    let group : ℕ = bit_xor walk.home walk.step in
    let next : ℕ = bit_xor walk.home (walk.step + 1) in
    let lanes : ℕ =
    mask_l (map (λ t. eqb t (tag_of walk.hash)) (chunk (16 * next) 16 walk.tags.now)) in
    let inside = group-inside walk is more in
    let left : ℕ = reach_of walk - (walk.step + 1) in
    let count : reach_of walk - walk.step ≡ suc left = omega arith in
    let rest : List ℕ = positions_along walk.home (walk.step + 1 + 1) left in
    ap (λ ones. filter_map give (lane_positions group ones ++ positions_along
    walk.home (walk.step + 1) (reach_of walk - walk.step))) none
    ∙ ap (λ ps. filter_map give
    (ps ++ positions_along walk.home (walk.step + 1) (reach_of walk - walk.step)))
    (lane_positions-none group)
    ∙ ap (λ n. filter_map give (positions_along walk.home (walk.step + 1) n)) count
    ∙ filter_map-append give (group_positions next) rest
    ∙ ap (λ ts. ts ++ filter_map give rest)
    (sym (given-lanes give walk.tags.now walk.hash next inside tagged))
    ∙ sym (filter_map-append give (lane_positions next lanes) rest)

-- the lanes are those of the tag of the hash
reads_next_group-tag : (walk : Walk) → IsWalk walk → walk.lanes ≡ 0 → walk.step < reach_of walk
    → ReadsNextGroup walk
    (mask_l (map (λ t. eqb t (tag_of walk.hash)) (chunk (16 * bit_xor walk.home (walk.step + 1)) 16 walk.tags.now)))
reads_next_group-tag walk is none more =
    let places = walk.places in
    let group : ℕ = bit_xor walk.home walk.step in
    let next : ℕ = bit_xor walk.home (walk.step + 1) in
    let lanes : ℕ =
    mask_l (map (λ t. eqb t (tag_of walk.hash)) (chunk (16 * next) 16 walk.tags.now)) in
    let inside = group-inside walk is more in
    let few = lanes-few walk.tags.now next (tag_of walk.hash) inside in
    let left : ℕ = reach_of walk - (walk.step + 1) in
    let count : reach_of walk - walk.step ≡ suc left = omega arith in
    let rest : List ℕ = positions_along walk.home (walk.step + 1 + 1) left in
    record {
      still = record {
        here = λ some. omega (arith, inside, is.tagged);
        later = λ step behind within. is.later step (omega arith) within;
        few = few;
        lit = lit-tag walk.tags.now next (tag_of walk.hash) inside;
        short = is.short;
        tagged = is.tagged;
        taken = is.taken;
        tags = is.tags;
      };
      left = given_left-next (token_of walk.places walk.hash) walk is more none is.tags;
      few = omega (arith, few);
    }

-- and so are those that the code finds
pub reads_next_group : (walk : Walk) (tag lanes : ℕ) → IsWalk walk → walk.lanes ≡ 0
    → walk.step < reach_of walk → tag ≡ tag_of walk.hash → lanes ≡ mask_l
    (map (λ t. eqb t tag) (chunk (16 * bit_xor walk.home (walk.step + 1)) 16 walk.tags.now))
    → ReadsNextGroup walk lanes
reads_next_group walk tag lanes is none more value at =
    let P : ℕ → Type 0 = λ n. ReadsNextGroup walk n in
    subst P (sym (at ∙ ap (λ t. mask_l
    (map (λ x. eqb x t) (chunk (16 * bit_xor walk.home (walk.step + 1)) 16 walk.tags.now))) value))
    (reads_next_group-tag walk is none more)

-- the walk that begins at this home, with these lanes to look at
abbrev pub first_walk : Walk → ℕ → ℕ → Walk
first_walk walk home lanes = record walk { home = home; step = 0; lanes = lanes }

-- it has all tokens of its hash to meet
pub record BeginsWalk (walk : Walk) (home lanes : ℕ) : Type 0 where
  pub still : IsWalk (first_walk walk home lanes)
  pub all : AreTokensOf walk.places walk.hash (tokens_left (first_walk walk home lanes))

-- the lanes are those of the tag of the hash
begins_walk-tag : (walk : Walk) (mask : ℕ)
    → IsWhole walk.tags.now walk.places walk.reaches.now mask → 0 < length walk.reaches.now
    → BeginsWalk walk (home_of mask walk.hash)
    (mask_l (map (λ t. eqb t (tag_of walk.hash)) (chunk (16 * home_of mask walk.hash) 16 walk.tags.now)))
begins_walk-tag walk mask whole some =
    let tags : List ℕ = walk.tags.now in
    let places = walk.places in
    let sized = whole.pairs.sized in
    let home : ℕ = home_of mask walk.hash in
    let reach : ℕ = get_or walk.reaches.now home 0 in
    let lanes : ℕ = mask_l (map (λ t. eqb t (tag_of walk.hash)) (chunk (16 * home) 16 tags)) in
    let low = and_le_r walk.hash mask in
    let near = sized.near home in
    let size : length places ≡ 16 * (mask + 1) = omega (arith, sized.sixteen, sized.groups some) in
    let power = sized.power in
    let within : (step : ℕ) → step ≤ mask → 16 * bit_xor home step + 16 ≤ length places =
    λ step less.
    omega (
      arith,
      size,
      power.1,
      xor_lt power.0 home step (omega (arith, power.1, low))
          (omega (arith, power.1)),
    ) in
    let inside : 16 * home + 16 ≤ length tags = omega (arith, size, low, sized.tagged) in
    let tagged = tagged-whole tags places walk.reaches.now mask walk.hash whole in
    let here : bit_xor home 0 ≡ home = xor_zero_r home in
    let all : reach - 0 ≡ reach = omega arith in
    let rest : List ℕ = positions_along home (0 + 1) reach in
    let tokens : tokens_left (first_walk walk home lanes) ≡ tokens_at places walk.hash
    (positions_along home 0 (suc reach)) =
    ap (λ n. tokens_at places walk.hash
    (lane_positions (bit_xor home 0) lanes ++ positions_along home (0 + 1) n)) all
    ∙ filter_map-append (token_of places walk.hash) (lane_positions (bit_xor home 0) lanes) rest
    ∙ ap (λ group. tokens_at places walk.hash (lane_positions group lanes) ++ tokens_at places
    walk.hash rest) here
    ∙ ap (λ ts. ts ++ tokens_at places walk.hash rest)
    (given-lanes (token_of places walk.hash) tags walk.hash home inside tagged)
    ∙ ap
    (λ group. tokens_at places walk.hash (group_positions group) ++ tokens_at places walk.hash rest)
    (sym here)
    ∙ sym (filter_map-append (token_of places walk.hash) (group_positions (bit_xor home 0)) rest) in
    record {
      still = record {
        here = λ more. within 0 (omega arith);
        later = λ step behind less. within step (omega arith);
        few = lanes-few tags home (tag_of walk.hash) inside;
        lit =
            λ lane set. ap (λ group. get_or tags (16 * group + lane) 0) here ∙ lit-tag tags home
            (tag_of walk.hash) inside lane set;
        short = omega (arith, size, sized.few);
        tagged = sized.tagged;
        taken = λ position within tag. (whole.pairs.housed position within tag).taken;
        tags = tagged;
      };
      all = λ token.
          ap (count_by (λ t. eqb t token)) tokens
          ∙ count_by-tokens_at places walk.hash token (positions_along home 0 (suc reach))
          ∙ weigh-along tags places walk.reaches.now mask walk.hash token whole some;
    }

-- and so are those that the code finds
pub begins_walk : (walk : Walk) (mask home tag lanes : ℕ)
    → IsWhole walk.tags.now walk.places walk.reaches.now mask → 0 < length walk.reaches.now
    → home ≡ home_of mask walk.hash → tag ≡ tag_of walk.hash
    → lanes ≡ mask_l (map (λ t. eqb t tag) (chunk (16 * home) 16 walk.tags.now))
    → BeginsWalk walk home lanes
begins_walk walk mask home tag lanes whole some begins value at =
    let lanes_at : ℕ → ℕ → ℕ =
    λ group t. mask_l (map (λ x. eqb x t) (chunk (16 * group) 16 walk.tags.now)) in
    let same : lanes ≡ lanes_at (home_of mask walk.hash) (tag_of walk.hash) =
    at ∙ ap (λ t. lanes_at home t) value ∙ ap (λ group. lanes_at group (tag_of walk.hash))
    begins in
    let P : ℕ → Type 0 = λ n. BeginsWalk walk home n in
    let Q : ℕ → Type 0 =
    λ group. BeginsWalk walk group (lanes_at (home_of mask walk.hash) (tag_of walk.hash)) in
    subst P (sym same) (subst Q (sym begins) (begins_walk-tag walk mask whole some))

-- a token that was met, and is another, does not count
pub count_by-passed : (tokens rest : List ℕ) (met k : ℕ) → tokens ≡ met ∷ rest → ¬ (met ≡ k)
    → count_by (λ t. eqb t k) rest ≡ count_by (λ t. eqb t k) tokens
count_by-passed tokens rest met k first other =
    omega (
      arith,
      ap (count_by (λ t. eqb t k)) first,
      sum_by-cons (λ t. bit (eqb t k)) met rest,
      ap
          bit (ne_eqb met k other),
    )

-- a taken place has its pair
pub holds_pair-own : (h k : ℕ) (place : Place) → 0 < place.token → hash_at place ≡ h
    → place.token ≡ k → holds_pair h k place ≡ true
holds_pair-own h k place some hash token =
    let taken : is_free place ≡ false = ne_eqb place.token 0 (λ e. omega (arith, some, e)) in
    ap (λ b. not b && ((eqb (hash_at place) h) && (eqb place.token k))) taken
    ∙ ap (λ b. b && (eqb place.token k)) (eq-eqb (hash_at place) h hash)
    ∙ eq-eqb place.token k token
