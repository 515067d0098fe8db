-- Sums over all groups, in order or by their distance from a home.
use Rattle.std.proofs.Common.{◌≡◌, ℕ, zero, suc, ◌+◌, ◌-◌, ◌*◌, ◌/◌, ◌%◌, ◌^◌, ◌<◌, ◌≤◌, Bool, List, [], ◌∷◌, ◌++◌, length, take, refl, sym}
use Rattle.std.proofs.Common.{ap, ◌∙◌, arith, count_by, bit_xor}
use Rattle.std.proofs.lemmas.Nat.{xor_block}
use Rattle.std.proofs.Math.Nat.{pow-suc}
use Rattle.std.proofs.lemmas.List.Sums.{sum_by_more}
use Rattle.std.proofs.Math.Seq.{take-length}
use Rattle.quick_cache_containers.specs.Places.{Place}
use Rattle.quick_cache_index.specs.IndexGroups.{positions_from, group_positions, positions_along}
use Rattle.quick_cache_containers.specs.TableGroups.{place_at, empty_place}
use Rattle.quick_cache_index.proofs.CountedTokens.{bit}
use Rattle.quick_cache_containers.proofs.CountedPlaces.{weigh}

-- ---- sums over numbers below a bound

-- the sum of f over the numbers below n
abbrev pub total : (ℕ → ℕ) → ℕ → ℕ
total f zero = 0
total f (suc n) = total f n + f n

-- where both have the same at each number
total-same : (f g : ℕ → ℕ) (n : ℕ) → ((i : ℕ) → i < n → f i ≡ g i) → total f n ≡ total g n
total-same f g zero same = refl
total-same f g (suc n) same =
    omega (arith, total-same f g n (λ i less. same i (omega arith)), same n (omega arith))

-- where the numbers from a on have nothing, they add nothing
pub total-more : (f : ℕ → ℕ) (a n : ℕ) → ((i : ℕ) → a ≤ i → i < a + n → f i ≡ 0)
    → total f (a + n) ≡ total f a
total-more f a zero none = let e : a + 0 ≡ a = omega arith in ap (total f) e
total-more f a (suc n) none =
    let e : a + suc n ≡ suc (a + n) = omega arith in
    ap (total f) e ∙ omega (
      arith,
      total-more f a n (λ i low less. none i low (omega arith)),
      none
          (a + n) (omega arith) (omega arith),
    )

-- two neighbours at a time
total-pairs : (f : ℕ → ℕ) (n : ℕ) → total f (n * 2) ≡ total (λ i. f (i * 2) + f (i * 2 + 1)) n
total-pairs f zero = refl
total-pairs f (suc n) =
    let e : suc n * 2 ≡ suc (suc (n * 2)) = omega arith in
    let e1 : suc (n * 2) ≡ n * 2 + 1 = omega arith in
    ap (total f) e ∙ omega (arith, total-pairs f n, ap f e1)

-- a bit, and the same bit flipped
xor_bits : (d : ℕ) → d < 2 → (bit_xor d 0 ≡ d) × (bit_xor d 1 ≡ 1 - d)
xor_bits zero small = (refl, refl)
xor_bits (suc zero) small = (refl, refl)
xor_bits (suc (suc d)) small = absurd (omega arith)

-- the numbers of k bits, each with the bits of one of them flipped, are the same numbers
pub total-xor : (k a : ℕ) (f : ℕ → ℕ) → a < 2 ^ k
    → total (λ i. f (bit_xor a i)) (2 ^ k) ≡ total f (2 ^ k)
total-xor zero zero f small = refl
total-xor zero (suc a) f small = absurd (omega arith)
total-xor (suc k) a f small =
    let twice : 2 ^ suc k ≡ 2 ^ k * 2 = pow-suc 2 k in
    let both : ℕ → ℕ = λ j. f (j * 2) + f (j * 2 + 1) in
    let split : a ≡ a / 2 * 2 ^ 1 + a % 2 = omega arith in
    let flipped : (j : ℕ) → j < 2 ^ k → f (bit_xor a (j * 2)) + f (bit_xor a (j * 2 + 1)) ≡ both
    (bit_xor (a / 2) j) =
    λ j less.
    let b = xor_bits (a % 2) (omega arith) in
    let even_number : j * 2 ≡ j * 2 ^ 1 + 0 = omega arith in
    let even : bit_xor a (j * 2) ≡ bit_xor (a / 2) j * 2 + a % 2 =
    ap (λ x. bit_xor x (j * 2)) split ∙ ap (bit_xor (a / 2 * 2 ^ 1 + a % 2)) even_number ∙ xor_block
    1 (a / 2) j (a % 2) 0 (omega arith) (omega arith) ∙ ap (λ x. bit_xor (a / 2) j * 2 + x) b.0 in
    let odd : bit_xor a (j * 2 + 1) ≡ bit_xor (a / 2) j * 2 + (1 - a % 2) =
    ap (λ x. bit_xor x (j * 2 + 1)) split ∙ xor_block 1 (a / 2) j (a % 2) 1 (omega arith)
    (omega arith) ∙ ap (λ x. bit_xor (a / 2) j * 2 + x) b.1 in
    both_ways (bit_xor (a / 2) j * 2) (a % 2) (bit_xor a (j * 2)) (bit_xor a (j * 2 + 1))
    (omega arith) even odd in
    ap (total (λ i. f (bit_xor a i))) twice ∙ total-pairs (λ i. f (bit_xor a i)) (2 ^ k)
    ∙ total-same (λ j. f (bit_xor a (j * 2)) + f (bit_xor a (j * 2 + 1)))
    (λ j. both (bit_xor (a / 2) j)) (2 ^ k) flipped
    ∙ total-xor k (a / 2) both (omega arith)
    ∙ sym (total-pairs f (2 ^ k)) ∙ ap (total f) (sym twice)
  where
    both_ways : (x d p q : ℕ) → d < 2 → p ≡ x + d → q ≡ x + (1 - d) → f p + f q ≡ f x + f (x + 1)
    both_ways x zero p q less first second =
        let e : x + 0 ≡ x = omega arith in
        omega (arith, ap f (first ∙ e), ap f second)
    both_ways x (suc zero) p q less first second =
        let e : x + 0 ≡ x = omega arith in
        omega (arith, ap f first, ap f (second ∙ e))
    both_ways x (suc (suc d)) p q less first second = absurd (omega arith)

-- positions behind others
weigh-append : (f : ℕ → ℕ) (ps qs : List ℕ) → weigh f (ps ++ qs) ≡ weigh f ps + weigh f qs
weigh-append f [] qs = omega arith
weigh-append f (p ∷ ps) qs = omega (arith, weigh-append f ps qs)

-- neighbouring positions
total-positions : (f : ℕ → ℕ) (start n : ℕ)
    → total f start + weigh f (positions_from start n) ≡ total f (start + n)
total-positions f start zero =
    let e : start ≡ start + 0 = omega arith in omega (arith, ap (total f) e)
total-positions f start (suc n) =
    let e : start + 1 ≡ suc start = omega arith in
    let shift : start + 1 + n ≡ start + suc n = omega arith in
    omega (arith, total-positions f (start + 1) n, ap (total f) e, ap (total f) shift)

-- the positions of all groups
pub total-groups : (f : ℕ → ℕ) (n : ℕ)
    → total f (16 * n) ≡ total (λ group. weigh f (group_positions group)) n
total-groups f zero = refl
total-groups f (suc n) =
    let e : 16 * n + 16 ≡ 16 * suc n = omega arith in
    omega (arith, total-groups f n, total-positions f (16 * n) 16, ap (total f) e)

-- the groups by their distance from a home
pub total-along : (f : ℕ → ℕ) (home step n : ℕ) → total
    (λ d. weigh f (group_positions (bit_xor home d))) step + weigh f
    (positions_along home step n) ≡ total (λ d. weigh f (group_positions (bit_xor home d)))
    (step + n)
total-along f home step zero =
    let e : step ≡ step + 0 = omega arith in
    omega (arith, ap (total (λ d. weigh f (group_positions (bit_xor home d)))) e)
total-along f home step (suc n) =
    let e : step + 1 ≡ suc step = omega arith in
    let shift : step + 1 + n ≡ step + suc n = omega arith in
    let by_distance : ℕ → ℕ = λ d. weigh f (group_positions (bit_xor home d)) in
    let here =
    weigh-append f (group_positions (bit_xor home step)) (positions_along home (step + 1) n) in
    omega (
      arith,
      total-along f home (step + 1) n,
      ap (total by_distance) e,
      ap (total by_distance)
          shift,
      here,
    )

-- positions where f has nothing
pub weigh-none : (f : ℕ → ℕ) (start n : ℕ) → ((i : ℕ) → i < n → f (start + i) ≡ 0)
    → weigh f (positions_from start n) ≡ 0
weigh-none f start zero none = refl
weigh-none f start (suc n) none =
    let first : start ≡ start + 0 = omega arith in
    let shift : (i : ℕ) → start + 1 + i ≡ start + suc i = λ i. omega arith in
    omega (
      arith,
      weigh-none f (start + 1) n
          (λ i less. ap f (shift i) ∙ none (suc i) (omega arith)),
      ap f first ∙ none 0 (omega arith),
    )

-- a count, as a sum over the positions
pub count_by-total : (good : Place → Bool) (places : List Place)
    → count_by good places ≡ total (λ p. bit (good (place_at places p))) (length places)
count_by-total good places =
    ap (count_by good) (sym (take-length places)) ∙ upto (length places) (omega arith)
  where
    upto : (n : ℕ) → n ≤ length places
        → count_by good (take n places) ≡ total (λ p. bit (good (place_at places p))) n
    upto zero within = refl
    upto (suc n) within =
        let e : suc n ≡ n + 1 = omega arith in
        ap (λ i. count_by good (take i places)) e ∙ omega (
          arith,
          sum_by_more (λ y. bit (good y))
              places n empty_place (omega arith),
          upto n (omega arith),
        )
