-- The lanes of a group: its positions by the bits of a mask, from the lowest on.
use Rattle.std.proofs.Common.{◌≡◌, ℕ, zero, suc, ◌+◌, ◌-◌, ◌*◌, ◌/◌, ◌%◌, ◌^◌, ◌<◌, ◌≤◌, Bool, true, false, cond, eqb, List, [], ◌∷◌}
use Rattle.std.proofs.Common.{length, map, get_or, Option, Some, None, refl, sym, ap, subst, ◌∙◌, inl, inr, arith, min, bit_and}
use Rattle.std.specs.Int.{bit_at, trailing_zeros, w64}
use Rattle.std.specs.List.{filter, filter_map, cons_option}
use Rattle.std.proofs.lemmas.Bool.Decides.{leb_tells}
use Rattle.std.proofs.lemmas.Bool.{eqb-true, eq-eqb}
use Rattle.std.proofs.lemmas.Nat.Bits.{bit_at_lowest, bit_at-suc, bit_at-zero, bit_at_and, bit_at-trailing_zeros, bit_at_above}
use Rattle.std.specs.Simd.Lanes.{chunk, mask_l}
use Rattle.std.proofs.lemmas.Simd.{mask_l-lt, bit_mask_l, length-chunk, get_or-chunk}
use Rattle.std.proofs.lemmas.List.{get_or-map, length-map}
use Rattle.quick_cache_index.specs.Index.{tag_of}
use Rattle.quick_cache_index.specs.IndexGroups.{positions_from, group_positions, lane_positions}
use Rattle.quick_cache_index.proofs.CountedTokens.{bool_tells, bit}

-- ---- bits

-- a number less 1, where bit t is its lowest: that bit goes, and those above stay
record IsLowered (n t : ℕ) : Type 0 where
  gone : bit_at (n - 1) t ≡ 0
  above : (i : ℕ) → t < i → bit_at (n - 1) i ≡ bit_at n i

-- from the lowest bit on, by the bits of the halves
above_half : (n i : ℕ) (half : ℕ) → (n - 1) / 2 ≡ half → bit_at (n - 1) (suc i) ≡ bit_at half i
above_half n i half at = bit_at-suc (n - 1) i ∙ ap (λ x. bit_at x i) at

lowered : (n t : ℕ) → bit_at n t ≡ 1 → ((i : ℕ) → i < t → bit_at n i ≡ 0) → IsLowered n t
lowered n zero set below =
    let odd : n % 2 ≡ 1 = sym (bit_at_lowest n) ∙ set in
    let half : (n - 1) / 2 ≡ n / 2 = omega arith in
    record { gone = bit_at_lowest (n - 1) ∙ omega arith; above = above half }
  where
    above : (n - 1) / 2 ≡ n / 2 → (i : ℕ) → 0 < i → bit_at (n - 1) i ≡ bit_at n i
    above half zero more = absurd (omega arith)
    above half (suc i) more = above_half n i (n / 2) half ∙ sym (bit_at-suc n i)
lowered n (suc t) set below =
    let even : n % 2 ≡ 0 = sym (bit_at_lowest n) ∙ below 0 (omega arith) in
    let later =
    lowered (n / 2) t (sym (bit_at-suc n t) ∙ set)
    (λ i less. sym (bit_at-suc n i) ∙ below (suc i) (omega arith)) in
    let half : (n - 1) / 2 ≡ n / 2 - 1 = omega arith in
    record { gone = above_half n t (n / 2 - 1) half ∙ later.gone; above = above half later.above }
  where
    above : (n - 1) / 2 ≡ n / 2 - 1 → ((i : ℕ) → t < i → bit_at (n / 2 - 1) i ≡ bit_at (n / 2) i)
        → (i : ℕ) → suc t < i → bit_at (n - 1) i ≡ bit_at n i
    above half later zero more = absurd (omega arith)
    above half later (suc i) more =
        above_half n i (n / 2 - 1) half ∙ later i (omega arith) ∙ sym (bit_at-suc n i)

-- the lowest bit of a number, and the number without it
pub record IsLowestBit (n t : ℕ) : Type 0 where
  pub set : bit_at n t ≡ 1
  pub below : (i : ℕ) → i < t → bit_at n i ≡ 0
  pub gone : (i : ℕ) → i ≤ t → bit_at (bit_and n (n - 1)) i ≡ 0
  pub above : (i : ℕ) → t < i → bit_at (bit_and n (n - 1)) i ≡ bit_at n i

pub trailing_zeros-IsLowestBit : (n : ℕ) → 0 < n → n < 2 ^ 64 → IsLowestBit n (trailing_zeros w64 n)
trailing_zeros-IsLowestBit n some small =
    let lowest = bit_at-trailing_zeros w64 n some small in
    let t = trailing_zeros w64 n in
    let less = lowered n t lowest.1 lowest.2 in
    record {
      set = lowest.1;
      below = lowest.2;
      gone = λ i within. elim (leb_tells t i) [
        | inl r ↦
            let at : i ≡ t = omega (arith, r.1, within) in
            bit_at_and n (n - 1) i ∙ ap (λ j. min (bit_at n j) (bit_at (n - 1) j)) at ∙ omega
            (arith, less.gone)
        | inr r ↦ bit_at_and n (n - 1) i ∙ omega (arith, lowest.2 i (omega (arith, r.1)))
      ];
      above = λ i more. bit_at_and n (n - 1) i ∙ omega (arith, less.above i more);
    }

-- the bits of a number without its lowest are bits of it
pub bit_at-rest : (n t i : ℕ) → IsLowestBit n t → bit_at (bit_and n (n - 1)) i ≡ 1 → bit_at n i ≡ 1
bit_at-rest n t i lowest set =
    elim (leb_tells (suc t) i) [
      | inl r ↦ sym (lowest.above i r.1) ∙ set
      | inr r ↦ absurd (omega (arith, set, lowest.gone i (omega (arith, r.1))))
    ]

-- ---- the lanes of a group

-- tests that agree on neighbouring positions pass the same of them
filter-same : (test other : ℕ → Bool) (start n : ℕ)
    → ((i : ℕ) → other (start + i) ≡ test (start + i))
    → filter test (positions_from start n) ≡ filter other (positions_from start n)
filter-same test other start zero same = refl
filter-same test other start (suc n) same =
    let later =
    filter-same test other (start + 1) n (λ i. let e : start + 1 + i ≡ start + suc i = omega
    arith in ap other e ∙ same (suc i) ∙ ap test (sym e)) in
    let here : other start ≡ test start = let e : start ≡ start + 0 = omega arith in
    ap other e ∙ same 0 ∙ ap test (sym e) in
    ap (λ b. cond b (start ∷ filter test (positions_from (start + 1) n))
    (filter test (positions_from (start + 1) n))) (sym here)
    ∙ ap (λ ps. cond (other start) (start ∷ ps) ps) later

-- the first position that passes, and those that pass behind it
filter-first : (test other : ℕ → Bool) (start n lane : ℕ) → lane < n
    → ((i : ℕ) → i < lane → test (start + i) ≡ false) → test (start + lane) ≡ true
    → ((i : ℕ) → i ≤ lane → other (start + i) ≡ false) →
    ((i : ℕ) → lane < i → other (start + i) ≡ test (start + i))
    → filter test (positions_from start n) ≡ (start + lane) ∷ filter other (positions_from start n)
filter-first test other start zero lane within before at gone behind = absurd (omega arith)
filter-first test other start (suc n) zero within before at gone behind =
    let e : start ≡ start + 0 = omega arith in
    let passes : test start ≡ true = ap test e ∙ at in
    let fails : other start ≡ false = ap other e ∙ gone 0 (omega arith) in
    let later =
    filter-same test other (start + 1) n (λ i. let e : start + 1 + i ≡ start + suc i = omega
    arith in ap other e ∙ behind (suc i) (omega arith) ∙ ap test (sym e)) in
    ap (λ b. cond b (start ∷ filter test (positions_from (start + 1) n))
    (filter test (positions_from (start + 1) n))) passes
    ∙ ap (λ ps. start ∷ ps) later
    ∙ ap (λ p. p ∷ filter other (positions_from (start + 1) n)) e
    ∙ ap (λ b. (start + 0) ∷ cond b (start ∷ filter other (positions_from (start + 1) n))
    (filter other (positions_from (start + 1) n))) (sym fails)
filter-first test other start (suc n) (suc lane) within before at gone behind =
    let e0 : start ≡ start + 0 = omega arith in
    let shift : (i : ℕ) → start + 1 + i ≡ start + suc i = λ i. omega arith in
    let passes : test start ≡ false = ap test e0 ∙ before 0 (omega arith) in
    let fails : other start ≡ false = ap other e0 ∙ gone 0 (omega arith) in
    let later = filter-first test other (start + 1) n lane (omega arith)
    (λ i less. ap test (shift i) ∙ before (suc i) (omega arith))
    (ap test (shift lane) ∙ at)
    (λ i less. ap other (shift i) ∙ gone (suc i) (omega arith))
    (λ i more. ap other (shift i) ∙ behind (suc i) (omega arith) ∙ ap test (sym (shift i))) in
    ap (λ b. cond b (start ∷ filter test (positions_from (start + 1) n))
    (filter test (positions_from (start + 1) n))) passes
    ∙ later
    ∙ ap (λ p. p ∷ filter other (positions_from (start + 1) n)) (shift lane)
    ∙ ap (λ b. (start + suc lane) ∷ cond b (start ∷ filter other (positions_from (start + 1) n))
    (filter other (positions_from (start + 1) n))) (sym fails)

-- the lowest of sixteen lanes is one of them
pub trailing_zeros-lt : (lanes : ℕ) → 0 < lanes → lanes < 2 ^ 16 → trailing_zeros w64 lanes < 16
trailing_zeros-lt lanes some few =
    let lowest = trailing_zeros-IsLowestBit lanes some (omega arith) in
    elim (leb_tells 16 (trailing_zeros w64 lanes)) [
      | inl r ↦
          absurd
          (omega (arith, lowest.set, bit_at_above lanes 16 (trailing_zeros w64 lanes) few r.1))
      | inr r ↦ omega (arith, r.1)
    ]

-- the lanes of a group, from the lowest on
pub lane_positions-first : (group lanes : ℕ) → 0 < lanes → lanes < 2 ^ 16
    → lane_positions group lanes ≡ (16 * group + trailing_zeros w64 lanes) ∷ lane_positions group
    (bit_and lanes (lanes - 1))
lane_positions-first group lanes some few =
    let t = trailing_zeros w64 lanes in
    let lowest = trailing_zeros-IsLowestBit lanes some (omega arith) in
    let within : t < 16 = trailing_zeros-lt lanes some few in
    let at : (i : ℕ) → 16 * group + i - 16 * group ≡ i = λ i. omega arith in
    filter-first (λ position. eqb (bit_at lanes (position - 16 * group)) 1)
    (λ position. eqb (bit_at (bit_and lanes (lanes - 1)) (position - 16 * group)) 1) (16 * group) 16
    t within
    (λ i less. ap (λ x. eqb (bit_at lanes x) 1) (at i) ∙ ap (λ d. eqb d 1) (lowest.below i less))
    (ap (λ x. eqb (bit_at lanes x) 1) (at t) ∙ ap (λ d. eqb d 1) lowest.set)
    (λ i less. ap (λ x. eqb (bit_at (bit_and lanes (lanes - 1)) x) 1) (at i) ∙ ap (λ d. eqb d 1)
    (lowest.gone i less))
    (λ i more. ap (λ x. eqb (bit_at (bit_and lanes (lanes - 1)) x) 1) (at i) ∙ ap (λ d. eqb d 1)
    (lowest.above i more) ∙ ap (λ x. eqb (bit_at lanes x) 1) (sym (at i)))

-- a group with no lane left has no position left
pub lane_positions-none : (group : ℕ) → lane_positions group 0 ≡ []
lane_positions-none group = none (16 * group) 16
  where
    none : (start n : ℕ) → filter (λ position. eqb (bit_at 0 (position - 16 * group)) 1)
        (positions_from start n) ≡ []
    none start zero = refl
    none start (suc n) =
        ap (λ d. cond (eqb d 1) (start ∷ filter
        (λ position. eqb (bit_at 0 (position - 16 * group)) 1) (positions_from (start + 1) n))
        (filter (λ position. eqb (bit_at 0 (position - 16 * group)) 1)
        (positions_from (start + 1) n))) (bit_at-zero (start - 16 * group))
        ∙ none (start + 1) n

-- where the positions that fail a test give nothing, those that pass give all
filter_map-passing : (h : ℕ → Option ℕ) (test : ℕ → Bool) (start n : ℕ)
    → ((i : ℕ) → i < n → test (start + i) ≡ false → h (start + i) ≡ None)
    → filter_map h (filter test (positions_from start n)) ≡ filter_map h (positions_from start n)
filter_map-passing h test start zero none = refl
filter_map-passing h test start (suc n) none =
    let shift : (i : ℕ) → start + 1 + i ≡ start + suc i = λ i. omega arith in
    let first : start ≡ start + 0 = omega arith in
    let later =
    filter_map-passing h test (start + 1) n (λ i less fails. ap h (shift i) ∙ none (suc i)
    (omega arith) (ap test (sym (shift i)) ∙ fails)) in
    let rest = filter test (positions_from (start + 1) n) in
    elim (bool_tells (test start)) [
      | inl passes ↦
          ap (λ b. filter_map h (cond b (start ∷ rest) rest)) passes ∙ ap (cons_option (h start))
          later
      | inr fails ↦
          let gives : h start ≡ None =
          ap h first ∙ none 0 (omega arith) (ap test (sym first) ∙ fails) in
          ap (λ b. filter_map h (cond b (start ∷ rest) rest)) fails ∙ later ∙ ap
          (λ o. cons_option o (filter_map h (positions_from (start + 1) n))) (sym gives)
    ]

-- the lanes of a tag, by their bits
lane_of-tag : (tags : List ℕ) (group tag i : ℕ) → 16 * group + 16 ≤ length tags → i < 16 → bit_at
    (mask_l (map (λ t. eqb t tag) (chunk (16 * group) 16 tags))) i ≡ bit
    (eqb (get_or tags (16 * group + i) 0) tag)
lane_of-tag tags group tag i inside less =
    let size = length-chunk (16 * group) 16 tags inside in
    bit_mask_l (map (λ t. eqb t tag) (chunk (16 * group) 16 tags)) i
    ∙ ap bit (get_or-map (λ t. eqb t tag) (chunk (16 * group) 16 tags) i 0 false (omega arith) ∙ ap
    (λ t. eqb t tag) (get_or-chunk (16 * group) 16 tags i 0 less))

-- those lanes are of sixteen places
pub lanes-few : (tags : List ℕ) (group tag : ℕ) → 16 * group + 16 ≤ length tags
    → mask_l (map (λ t. eqb t tag) (chunk (16 * group) 16 tags)) < 2 ^ 16
lanes-few tags group tag inside =
    let size : length (map (λ t. eqb t tag) (chunk (16 * group) 16 tags)) ≡ 16 =
    length-map (chunk (16 * group) 16 tags) (λ t. eqb t tag) ∙ length-chunk (16 * group) 16 tags
    inside in
    subst (λ (n : ℕ). mask_l (map (λ t. eqb t tag) (chunk (16 * group) 16 tags)) < 2 ^ n) size
    (mask_l-lt (map (λ t. eqb t tag) (chunk (16 * group) 16 tags)))

-- and where a bit is set there is the tag
pub lit-tag : (tags : List ℕ) (group tag : ℕ) → 16 * group + 16 ≤ length tags → (lane : ℕ)
    → bit_at (mask_l (map (λ t. eqb t tag) (chunk (16 * group) 16 tags))) lane ≡ 1
    → get_or tags (16 * group + lane) 0 ≡ tag
lit-tag tags group tag inside lane set =
    elim (leb_tells 16 lane) [
      | inl r ↦
          absurd (omega (
            arith,
            set,
            bit_at_above
                (mask_l (map (λ t. eqb t tag) (chunk (16 * group) 16 tags))) 16 lane
                (lanes-few tags group tag inside) r.1,
          ))
      | inr r ↦
          let at = lane_of-tag tags group tag lane inside (omega (arith, r.1)) in
          elim (bool_tells (eqb (get_or tags (16 * group + lane) 0) tag)) [
            | inl holds ↦ eqb-true (get_or tags (16 * group + lane) 0) tag holds
            | inr fails ↦ absurd (omega (arith, set, at, ap bit fails))
          ]
    ]

-- what gives no number gives nothing
pub some_none : (o : Option ℕ) → ((token : ℕ) → o ≡ Some token → ⊥) → o ≡ None
some_none None off = refl
some_none (Some token) off = absurd (off token refl)

-- the lanes of the tag of a hash have all that only places of that tag give
pub given-lanes : (give : ℕ → Option ℕ) (tags : List ℕ) (hash group : ℕ)
    → 16 * group + 16 ≤ length tags
    → ((position token : ℕ) → give position ≡ Some token → get_or tags position 0 ≡ tag_of hash)
    → filter_map give
    (lane_positions group (mask_l (map (λ t. eqb t (tag_of hash)) (chunk (16 * group) 16 tags)))) ≡
    filter_map give (group_positions group)
given-lanes give tags hash group inside tagged =
    filter_map-passing give (λ position. eqb (bit_at
    (mask_l (map (λ t. eqb t (tag_of hash)) (chunk (16 * group) 16 tags))) (position - 16 * group))
    1) (16 * group) 16
    (λ i less fails.
    let at : 16 * group + i - 16 * group ≡ i = omega arith in
    some_none (give (16 * group + i)) (λ token has.
    let same : eqb (get_or tags (16 * group + i) 0) (tag_of hash) ≡ true =
    eq-eqb (get_or tags (16 * group + i) 0) (tag_of hash) (tagged (16 * group + i) token has) in
    let set : bit_at (mask_l (map (λ t. eqb t (tag_of hash)) (chunk (16 * group) 16 tags)))
    (16 * group + i - 16 * group) ≡ 1 =
    ap (bit_at (mask_l (map (λ t. eqb t (tag_of hash)) (chunk (16 * group) 16 tags)))) at ∙
    lane_of-tag tags group (tag_of hash) i inside less ∙ ap bit same in
    let passes : true ≡ false = ap (λ d. eqb d 1) (sym set) ∙ fails in
    absurd (cc)))
