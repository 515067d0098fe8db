-- What a walk over the groups of a hash meets: each token whose place has its tag.
use Rattle.std.proofs.Common.{◌≡◌, ℕ, zero, suc, ◌+◌, ◌-◌, ◌*◌, ◌/◌, ◌%◌, ◌^◌, ◌<◌, ◌≤◌, cond, eqb, List, ◌∷◌, ◌++◌, length, map, get_or}
use Rattle.std.proofs.Common.{Option, Some, None, refl, sym, ap, subst, ◌∙◌, inl, inr, arith, count_by, bit_and, bit_xor}
use Rattle.std.specs.Int.Bits.{xor_zero_r}
use Rattle.std.specs.Int.{trailing_zeros, w64}
use Rattle.std.specs.List.{cons_option, filter_map}
use Rattle.std.proofs.lemmas.Bool.{eqb-true, eq-eqb, ne_eqb}
use Rattle.std.proofs.lemmas.Nat.{xor_lt, and_le_r}
use Rattle.std.specs.Simd.Lanes.{chunk, mask_l}
use Rattle.std.proofs.lemmas.List.Elements.{filter_map-append}
use Rattle.std.proofs.lemmas.List.Sums.{sum_by-cons, sum_by-append}
use Rattle.quick_cache_index.specs.declared.index.walk.Walk.{Walk}
use Rattle.quick_cache_index.specs.Index.{tag_of, home_of}
use Rattle.quick_cache_index.specs.IndexGroups.{IsGrouped, IsMatched, positions_from, group_positions, lane_positions, positions_along}
use Rattle.quick_cache_index.specs.IndexGroups.{reach_of, tagged_token, candidates_left, IsWalk, CoversTagged}
use Rattle.quick_cache_index.proofs.CountedTokens.{bool_tells, equal_or_not, bit}
use Rattle.quick_cache_index.proofs.GroupLanes.{lane_positions-first, lane_positions-none, lanes-few, lit-tag, given-lanes}
use Rattle.quick_cache_index.proofs.GroupLanes.{trailing_zeros-lt, trailing_zeros-IsLowestBit, bit_at-rest}
use Rattle.quick_cache_index.proofs.Distances.{xor-back}

-- how often a number is there
abbrev pub times : ℕ → List ℕ → ℕ
times k tokens = count_by (λ t. eqb t k) tokens

-- ---- what is given at positions

-- what is given at one of neighbouring positions is among what all of them give
given_from : (give : ℕ → Option ℕ) (k start n i : ℕ) → i < n → give (start + i) ≡ Some k
    → 0 < times k (filter_map give (positions_from start n))
given_from give k start zero i within gives = absurd (omega arith)
given_from give k start (suc n) zero within gives =
    let e : start ≡ start + 0 = omega arith in
    let rest : List ℕ = filter_map give (positions_from (start + 1) n) in
    let here : give start ≡ Some k = ap give e ∙ gives in
    let list = ap (λ o. times k (cons_option o rest)) here in
    omega (
      arith,
      list,
      sum_by-cons (λ t. bit (eqb t k)) k rest,
      ap bit (eq-eqb k k refl),
    )
given_from give k start (suc n) (suc i) within gives =
    let shift : start + 1 + i ≡ start + suc i = omega arith in
    let later : 0 < times k (filter_map give (positions_from (start + 1) n)) =
    given_from give k (start + 1) n i (omega arith) (ap give shift ∙ gives) in
    more (give start) (filter_map give (positions_from (start + 1) n)) later
  where
    more : (o : Option ℕ) (rest : List ℕ) → 0 < times k rest → 0 < times k (cons_option o rest)
    more None rest some = some
    more (Some token) rest some =
        omega (arith, some, sum_by-cons (λ t. bit (eqb t k)) token rest)

-- and what is given in one of the groups along a way
given_along : (give : ℕ → Option ℕ) (k home step n d : ℕ) → step ≤ d → d < step + n
    → 0 < times k (filter_map give (group_positions (bit_xor home d)))
    → 0 < times k (filter_map give (positions_along home step n))
given_along give k home step zero d from within some = absurd (omega arith)
given_along give k home step (suc n) d from within some =
    let here : List ℕ = filter_map give (group_positions (bit_xor home step)) in
    let rest : List ℕ = filter_map give (positions_along home (step + 1) n) in
    let both = ap (times k) (filter_map-append give (group_positions (bit_xor home step))
    (positions_along home (step + 1) n)) in
    let sum = sum_by-append (λ t. bit (eqb t k)) here rest in
    elim (equal_or_not step d) [
      | inl same ↦
          omega (
            arith,
            both,
            sum,
            some,
            ap (λ x. times k (filter_map give (group_positions (bit_xor home x)))) same,
          )
      | inr other ↦
          omega (
            arith,
            both,
            sum,
            given_along give k home (step + 1) n d (omega (arith, from, other))
                (omega (arith, within)) some,
          )
    ]

-- the number that is there, or 0
abbrev number_in : Option ℕ → ℕ
number_in None = 0
number_in (Some number) = number

-- what has a token there has the tag
pub tagged_token-some : (tags tokens : List ℕ) (hash position token : ℕ)
    → tagged_token tags tokens hash position ≡ Some token
    → (get_or tags position 0 ≡ tag_of hash) × (get_or tokens position 0 ≡ token)
tagged_token-some tags tokens hash position token has =
    let some : Option ℕ = Some (get_or tokens position 0) in
    elim (bool_tells (eqb (get_or tags position 0) (tag_of hash))) [
      | inl holds ↦ (
        eqb-true (get_or tags position 0) (tag_of hash) holds,
        ap number_in (sym (ap (λ b. cond b some None) holds) ∙ has),
      )
      | inr fails ↦
          let none : None ≡ Some token = sym (ap (λ b. cond b some None) fails) ∙ has in
          absurd (cc)
    ]

-- what has the tag has its token there
pub tagged_token-tag : (tags tokens : List ℕ) (hash position : ℕ)
    → get_or tags position 0 ≡ tag_of hash
    → tagged_token tags tokens hash position ≡ Some (get_or tokens position 0)
tagged_token-tag tags tokens hash position tag =
    let some : Option ℕ = Some (get_or tokens position 0) in
    ap (λ b. cond b some None) (eq-eqb (get_or tags position 0) (tag_of hash) tag)

-- a tag is not 0
pub tag_of-some : (hash : ℕ) → 0 < tag_of hash
tag_of-some hash = omega arith

-- ---- a lane is looked at

-- the walk behind the lowest lane
abbrev pub behind_lane : Walk → Walk
behind_lane walk = record walk { lanes = bit_and walk.lanes (walk.lanes - 1) }

-- the position of the lowest lane
abbrev pub lane_position : Walk → ℕ
lane_position walk = 16 * walk.group + trailing_zeros w64 walk.lanes

-- a walk that has a lane to look at: the lowest lane's position, and the walk behind it
pub record LooksAtLane (walk next : Walk) (position : ℕ) : Type 0 where
  pub inside : position < length walk.tokens.now
  pub still : IsWalk next
  pub taken : 0 < get_or walk.tokens.now position 0
  pub candidate : candidates_left walk ≡ get_or walk.tokens.now position 0 ∷ candidates_left next

-- by the distance of the group
looks_at_lane-by : (walk : Walk) → IsWalk walk → 0 < walk.lanes
    → LooksAtLane walk (behind_lane walk)
    (16 * bit_xor walk.home walk.step + trailing_zeros w64 walk.lanes)
looks_at_lane-by walk is some =
    let lanes : ℕ = bit_and walk.lanes (walk.lanes - 1) in
    let fewer : lanes ≤ walk.lanes - 1 = and_le_r walk.lanes (walk.lanes - 1) in
    let few : walk.lanes < 2 ^ 16 = is.few in
    let group : ℕ = bit_xor walk.home walk.step in
    let behind : List ℕ = positions_along walk.home (walk.step + 1) (reach_of walk - walk.step) in
    let lowest = trailing_zeros-IsLowestBit walk.lanes some (omega arith) in
    let give : ℕ → Option ℕ = tagged_token walk.tags.now walk.tokens.now walk.hash in
    let position : ℕ = 16 * group + trailing_zeros w64 walk.lanes in
    let tag = is.lit (trailing_zeros w64 walk.lanes) lowest.set in
    record {
      inside = omega (arith, is.here some, trailing_zeros-lt walk.lanes some few);
      still = record {
        group = is.group;
        here = λ more. is.here some;
        later = is.later;
        few = omega arith;
        lit =
            λ lane set. is.lit lane
            (bit_at-rest walk.lanes (trailing_zeros w64 walk.lanes) lane lowest set);
        short = is.short;
        tagged = is.tagged;
        taken = is.taken;
      };
      taken = is.taken position (omega (arith, tag, tag_of-some walk.hash));
      candidate =
          ap (λ ps. filter_map give (ps ++ behind)) (lane_positions-first group walk.lanes some few)
          ∙ ap (λ o. cons_option o (filter_map give (lane_positions group lanes ++ behind)))
          (tagged_token-tag walk.tags.now walk.tokens.now walk.hash position tag);
    }

-- by the group itself
pub looks_at_lane : (walk : Walk) → IsWalk walk → 0 < walk.lanes
    → LooksAtLane walk (behind_lane walk) (lane_position walk)
looks_at_lane walk is some =
    subst (λ (group : ℕ). LooksAtLane walk (behind_lane walk)
    (16 * group + trailing_zeros w64 walk.lanes)) (sym is.group) (looks_at_lane-by walk is some)

-- ---- the next group is read

-- the walk that reads the next group, with these lanes to look at
abbrev pub at_next_group : Walk → ℕ → Walk
at_next_group walk lanes = record walk {
  group = bit_xor walk.home (walk.step + 1);
  step = walk.step + 1;
  lanes = lanes;
}

-- the next group is there
pub group-inside : (walk : Walk) → IsWalk walk → walk.step < reach_of walk
    → 16 * bit_xor walk.home (walk.step + 1) + 16 ≤ length walk.tags.now
group-inside walk is more =
    omega (arith, is.later (walk.step + 1) (omega arith) (omega arith), is.tagged)

-- a walk that goes on to the next group has left what it had left
pub record ReadsNextGroup (walk : Walk) (lanes : ℕ) : Type 0 where
  pub still : IsWalk (at_next_group walk lanes)
  pub candidates : candidates_left walk ≡ candidates_left (at_next_group walk lanes)
  pub few : lanes < 65536

-- the lanes of the tag of a hash, in a group
abbrev tag_lanes : List ℕ → ℕ → ℕ → ℕ
tag_lanes tags hash group = mask_l (map (λ t. eqb t (tag_of hash)) (chunk (16 * group) 16 tags))

-- the lanes are those of the tag of the hash
reads_next_group-tag : (walk : Walk) → IsWalk walk → walk.lanes ≡ 0 → walk.step < reach_of walk
    → ReadsNextGroup walk
    (tag_lanes walk.tags.now walk.hash (bit_xor walk.home (walk.step + 1)))
reads_next_group-tag walk is none more =
    let give : ℕ → Option ℕ = tagged_token walk.tags.now walk.tokens.now walk.hash in
    let group : ℕ = bit_xor walk.home walk.step in
    let next : ℕ = bit_xor walk.home (walk.step + 1) in
    let lanes : ℕ = tag_lanes walk.tags.now walk.hash next in
    let inside = group-inside walk is more in
    let few = lanes-few walk.tags.now next (tag_of walk.hash) inside in
    let left : ℕ = reach_of walk - (walk.step + 1) in
    let count : reach_of walk - walk.step ≡ suc left = omega arith in
    let rest : List ℕ = positions_along walk.home (walk.step + 1 + 1) left in
    record {
      still = record {
        group = refl;
        here = λ some. omega (arith, inside, is.tagged);
        later = λ step behind within. is.later step (omega arith) within;
        few = few;
        lit = lit-tag walk.tags.now next (tag_of walk.hash) inside;
        short = is.short;
        tagged = is.tagged;
        taken = is.taken;
      };
      candidates =
          ap (λ ones. filter_map give (lane_positions group ones ++ positions_along
          walk.home (walk.step + 1) (reach_of walk - walk.step))) none
          ∙ ap (λ ps. filter_map give
          (ps ++ positions_along walk.home (walk.step + 1) (reach_of walk - walk.step)))
          (lane_positions-none group)
          ∙ ap (λ n. filter_map give (positions_along walk.home (walk.step + 1) n)) count
          ∙ filter_map-append give (group_positions next) rest
          ∙ ap (λ ts. ts ++ filter_map give rest)
          (sym (given-lanes give walk.tags.now walk.hash next inside (λ position token has.
          (tagged_token-some walk.tags.now walk.tokens.now walk.hash position token has).0)))
          ∙ sym (filter_map-append give (lane_positions next lanes) rest);
      few = omega (arith, few);
    }

-- and so are those that the code finds
pub reads_next_group : (walk : Walk) (tag lanes : ℕ) → IsWalk walk → walk.lanes ≡ 0
    → walk.step < reach_of walk → tag ≡ tag_of walk.hash → lanes ≡ mask_l
    (map (λ t. eqb t tag) (chunk (16 * bit_xor walk.home (walk.step + 1)) 16 walk.tags.now))
    → ReadsNextGroup walk lanes
reads_next_group walk tag lanes is none more value at =
    let P : ℕ → Type 0 = λ n. ReadsNextGroup walk n in
    subst P (sym (at ∙ ap (λ t. mask_l
    (map (λ x. eqb x t) (chunk (16 * bit_xor walk.home (walk.step + 1)) 16 walk.tags.now))) value))
    (reads_next_group-tag walk is none more)

-- ---- a walk begins

-- the walk that begins at this home, with these lanes to look at
abbrev pub first_walk : Walk → ℕ → ℕ → Walk
first_walk walk home lanes = record walk { home = home; group = home; step = 0; lanes = lanes }

-- it has all tokens to meet that a search for its hash meets
pub record BeginsWalk (walk : Walk) (mask home lanes : ℕ) : Type 0 where
  pub still : IsWalk (first_walk walk home lanes)
  pub all : CoversTagged walk.tags.now walk.tokens.now walk.reaches.now mask walk.hash
      (candidates_left (first_walk walk home lanes))

-- the lanes are those of the tag of the hash
begins_walk-tag : (walk : Walk) (mask : ℕ)
    → IsGrouped walk.tags.now walk.tokens.now walk.reaches.now mask
    → IsMatched walk.tags.now walk.tokens.now → 0 < length walk.reaches.now
    → BeginsWalk walk mask (home_of mask walk.hash)
    (tag_lanes walk.tags.now walk.hash (home_of mask walk.hash))
begins_walk-tag walk mask sized matched some =
    let tags : List ℕ = walk.tags.now in
    let tokens : List ℕ = walk.tokens.now in
    let give : ℕ → Option ℕ = tagged_token tags tokens walk.hash in
    let home : ℕ = home_of mask walk.hash in
    let reach : ℕ = get_or walk.reaches.now home 0 in
    let lanes : ℕ = tag_lanes tags walk.hash home in
    let low = and_le_r walk.hash mask in
    let near = sized.near home in
    let size : length tokens ≡ 16 * (mask + 1) = omega (arith, sized.sixteen, sized.groups some) in
    let power = sized.power in
    let within : (step : ℕ) → step ≤ mask → 16 * bit_xor home step + 16 ≤ length tokens =
    λ step less.
    omega (
      arith,
      size,
      power.1,
      xor_lt power.0 home step (omega (arith, power.1, low))
          (omega (arith, power.1)),
    ) in
    let inside : 16 * home + 16 ≤ length tags = omega (arith, size, low, sized.tagged) in
    let here : bit_xor home 0 ≡ home = xor_zero_r home in
    let all : reach - 0 ≡ reach = omega arith in
    let rest : List ℕ = positions_along home (0 + 1) reach in
    let candidates : candidates_left (first_walk walk home lanes) ≡ filter_map give
    (positions_along home 0 (suc reach)) =
    ap (λ n. filter_map give
    (lane_positions (bit_xor home 0) lanes ++ positions_along home (0 + 1) n)) all
    ∙ filter_map-append give (lane_positions (bit_xor home 0) lanes) rest
    ∙ ap (λ group. filter_map give (lane_positions group lanes) ++ filter_map give rest) here
    ∙ ap (λ ts. ts ++ filter_map give rest)
    (given-lanes give tags walk.hash home inside (λ position token has.
    (tagged_token-some tags tokens walk.hash position token has).0))
    ∙ ap
    (λ group. filter_map give (group_positions group) ++ filter_map give rest)
    (sym here)
    ∙ sym (filter_map-append give (group_positions (bit_xor home 0)) rest) in
    record {
      still = record {
        group = sym here;
        here = λ more. within 0 (omega arith);
        later = λ step behind less. within step (omega arith);
        few = lanes-few tags home (tag_of walk.hash) inside;
        lit =
            λ lane set. ap (λ group. get_or tags (16 * group + lane) 0) here ∙ lit-tag tags home
            (tag_of walk.hash) inside lane set;
        short = omega (arith, size, sized.few);
        tagged = sized.tagged;
        taken = matched.taken;
      };
      all = λ position placed tag reached.
          let k : ℕ = get_or tokens position 0 in
          let d : ℕ = bit_xor home (position / 16) in
          let group : bit_xor home d ≡ position / 16 = xor-back home (position / 16) in
          let place : 16 * bit_xor home d + position % 16 ≡ position = omega (arith, group) in
          let gives : give (16 * bit_xor home d + position % 16) ≡ Some k =
          ap give place ∙ tagged_token-tag tags tokens walk.hash position tag in
          let P : List ℕ → Type 0 = λ ts. 0 < times k ts in
          subst P (sym candidates) (given_along give k home 0 (suc reach) d (omega arith)
          (omega (arith, reached))
          (given_from give k (16 * bit_xor home d) 16 (position % 16) (omega arith) gives));
    }

-- and so are those that the code finds
pub begins_walk : (walk : Walk) (mask home tag lanes : ℕ)
    → IsGrouped walk.tags.now walk.tokens.now walk.reaches.now mask
    → IsMatched walk.tags.now walk.tokens.now → 0 < length walk.reaches.now
    → home ≡ home_of mask walk.hash → tag ≡ tag_of walk.hash
    → lanes ≡ mask_l (map (λ t. eqb t tag) (chunk (16 * home) 16 walk.tags.now))
    → BeginsWalk walk mask home lanes
begins_walk walk mask home tag lanes sized matched some begins value at =
    let lanes_at : ℕ → ℕ → ℕ =
    λ group t. mask_l (map (λ x. eqb x t) (chunk (16 * group) 16 walk.tags.now)) in
    let same : lanes ≡ lanes_at (home_of mask walk.hash) (tag_of walk.hash) =
    at ∙ ap (λ t. lanes_at home t) value ∙ ap (λ group. lanes_at group (tag_of walk.hash))
    begins in
    let P : ℕ → Type 0 = λ n. BeginsWalk walk mask home n in
    let Q : ℕ → Type 0 =
    λ group. BeginsWalk walk mask group (lanes_at (home_of mask walk.hash) (tag_of walk.hash)) in
    subst P (sym same) (subst Q (sym begins) (begins_walk-tag walk mask sized matched some))

-- a token that was met, and is another, does not count
pub count_by-passed : (tokens rest : List ℕ) (met k : ℕ) → tokens ≡ met ∷ rest → ¬ (met ≡ k)
    → count_by (λ t. eqb t k) rest ≡ count_by (λ t. eqb t k) tokens
count_by-passed tokens rest met k first other =
    omega (
      arith,
      ap (count_by (λ t. eqb t k)) first,
      sum_by-cons (λ t. bit (eqb t k)) met rest,
      ap
          bit (ne_eqb met k other),
    )
