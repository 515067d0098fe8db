-- The search for a free place, from the home of a hash outward: the nearest without a tag.
use Rattle.std.proofs.Common.{◌≡◌, ◌≢◌, ℕ, ◌+◌, ◌*◌, ◌/◌, ◌%◌, ◌^◌, ◌<◌, ◌≤◌, eqb, List, length, map, get_or, count_by, sym, ap, subst, ◌∙◌}
use Rattle.std.proofs.Common.{inl, inr, arith, w64}
use Rattle.std.specs.Int.{IsPowerOfTwo, bit_at, trailing_zeros, w64}
use Rattle.std.specs.Int.Bits.{bit_xor}
use Rattle.std.specs.Simd.Lanes.{chunk, mask_l}
use Rattle.std.proofs.lemmas.Bool.{eqb-true, eqb-false, eq-eqb}
use Rattle.std.proofs.lemmas.Bool.Decides.{leb_tells}
use Rattle.std.proofs.lemmas.List.Sums.{get_or-le-sum_by}
use Rattle.std.proofs.lemmas.Simd.{none_from_empty_mask}
use Rattle.quick_cache_index.specs.Index.{is_free}
use Rattle.quick_cache_index.specs.IndexGroups.{IsMatched}
use Rattle.quick_cache_index.proofs.Distances.{xor-back, xor-within}
use Rattle.quick_cache_index.proofs.GroupLanes.{lanes-few, lit-tag, trailing_zeros-IsLowestBit, trailing_zeros-lt}
use Rattle.quick_cache_index.proofs.CountedTokens.{bit, position_of_some}

-- the lowest bit of a mask is a lane that has the tag
pub lane_of_mask : (tags : List ℕ) (group tag lanes : ℕ) → 16 * group + 16 ≤ length tags
    → lanes ≡ mask_l (map (λ t. eqb t tag) (chunk (16 * group) 16 tags)) → lanes ≢ 0 →
    (trailing_zeros w64 lanes < 16) × (get_or tags (16 * group + trailing_zeros w64 lanes) 0 ≡ tag)
lane_of_mask tags group tag lanes inside is some =
    let few : lanes < 2 ^ 16 = subst (λ n. n < 2 ^ 16) (sym is) (lanes-few tags group tag inside) in
    let lowest = trailing_zeros-IsLowestBit lanes (omega (arith, some)) (omega (arith, few)) in
    let set = ap (λ n. bit_at n (trailing_zeros w64 lanes)) (sym is) ∙ lowest.set in (
      trailing_zeros-lt lanes (omega (arith, some)) few,
      lit-tag tags group tag inside
          (trailing_zeros w64 lanes) set,
    )

-- the groups nearer than this have no place without a tag
abbrev pub AreTagged : List ℕ → ℕ → ℕ → Type 0
AreTagged tags home step =
    (s : ℕ) → s < step → (lane : ℕ) → lane < 16 → get_or tags (16 * bit_xor home s + lane) 0 ≢ 0

-- a place without a tag is no nearer than a group that was not read
pub AreTagged-near : (tags : List ℕ) (home step position : ℕ) → AreTagged tags home step
    → get_or tags position 0 ≡ 0 → step ≤ bit_xor home (position / 16)
AreTagged-near tags home step position tagged free =
    let s = bit_xor home (position / 16) in
    elim (leb_tells step s) [
      | inl t ↦ t.1
      | inr t ↦
          let here : 16 * bit_xor home s + position % 16 ≡ position =
          omega (arith, xor-back home (position / 16)) in
          absurd (tagged s (omega (arith, t.1)) (position % 16) (omega arith)
          (ap (λ n. get_or tags n 0) here ∙ free))
    ]

-- some group is left where a place has no tag
pub AreTagged-step : (tags : List ℕ) (mask home step : ℕ) → length tags ≡ 16 * (mask + 1)
    → IsPowerOfTwo (mask + 1) → home ≤ mask → 0 < count_by (λ t. eqb t 0) tags
    → AreTagged tags home step → step ≤ mask
AreTagged-step tags mask home step sized power inside some tagged =
    let free = position_of_some (λ t. eqb t 0) tags some in
    let near = xor-within mask home (free.0 / 16) power inside (omega (arith, sized, free.1)) in
    omega (arith, near, AreTagged-near tags home step free.0 tagged (eqb-true _ 0 free.2))

-- the distance of a place in the group at a distance
pub distance-lane : (home step lane : ℕ) → lane < 16
    → bit_xor home ((16 * bit_xor home step + lane) / 16) ≡ step
distance-lane home step lane within =
    let group : (16 * bit_xor home step + lane) / 16 ≡ bit_xor home step = omega (arith, within) in
    ap (bit_xor home) group ∙ xor-back home step

-- the group that is left is one that there is
pub AreTagged-group : (tags : List ℕ) (mask home step : ℕ) → length tags ≡ 16 * (mask + 1)
    → IsPowerOfTwo (mask + 1) → home ≤ mask → 0 < count_by (λ t. eqb t 0) tags
    → AreTagged tags home step → 16 * bit_xor home step + 16 ≤ length tags
AreTagged-group tags mask home step sized power inside some tagged =
    omega (
      arith,
      sized,
      xor-within mask home step power inside
          (AreTagged-step tags mask home step sized power inside some tagged),
    )

-- one group more has no place without a tag
pub AreTagged-more : (tags : List ℕ) (home step : ℕ) → 16 * bit_xor home step + 16 ≤ length tags
    → mask_l (map (λ t. eqb t 0) (chunk (16 * bit_xor home step) 16 tags)) ≡ 0
    → AreTagged tags home step → AreTagged tags home (step + 1)
AreTagged-more tags home step inside no_lane tagged s below lane in_group is =
    elim (leb_tells step s) [
      | inl t ↦
          let from = 16 * bit_xor home step in
          let same : s ≡ step = omega (arith, t.1, below) in
          let none =
          none_from_empty_mask (λ x. eqb x 0) tags from 16 0 inside no_lane (from + lane)
          (omega arith) (omega (arith, in_group)) in
          eqb-false (get_or tags (from + lane) 0) 0 none
          (ap (λ n. get_or tags (16 * bit_xor home n + lane) 0) (sym same) ∙ is)
      | inr t ↦ tagged s (omega (arith, t.1)) lane in_group is
    ]

-- a place without a token has no tag
pub untagged_some : (tags tokens : List ℕ) → IsMatched tags tokens → length tags ≡ length tokens
    → 0 < count_by is_free tokens → 0 < count_by (λ t. eqb t 0) tags
untagged_some tags tokens matched long room =
    let free = position_of_some is_free tokens room in
    let p = free.0 in
    elim (leb_tells 1 (get_or tags p 0)) [
      | inl t ↦ absurd (omega (arith, matched.taken p t.1, eqb-true _ 0 free.2))
      | inr t ↦
          let bare = ap bit (eq-eqb (get_or tags p 0) 0 (omega (arith, t.1))) in
          omega (
            arith,
            bare,
            get_or-le-sum_by (λ x. bit (eqb x 0)) tags p 0 (omega (arith, long, free.1)),
          )
    ]
