-- Pairs in ascending order: the same pairs make the same list.
use Rattle.std.proofs.Common.{◌≡◌, ℕ, suc, ◌+◌, ◌<◌, Bool, true, false, cond, ◌||◌, List, [], ◌∷◌, length, refl, sym, ap, ◌∙◌, inl, inr}
use Rattle.std.proofs.Common.{arith, count_by}
use Rattle.std.specs.List.{list_any}
use Rattle.std.proofs.lemmas.Bool.{cases_Bool, cond-true, cond-false}
use Rattle.std.proofs.lemmas.Bool.Decides.{nat_tests}
use Rattle.std.proofs.lemmas.List.Sums.{sum_by-cons}
use Rattle.quick_cache_containers.specs.Table.{is_less, put_in, in_order, is_pair}

-- what is less than a pair that is not above another is less than that
less_trans : (a b c : ℕ × ℕ) → is_less c a ≡ false → is_less c b ≡ true → is_less a b ≡ true
less_trans a b c above below = grind (arith, nat_tests)

-- of two pairs one at most is less
less_asym : (a b : ℕ × ℕ) → is_less a b ≡ true → is_less b a ≡ false
less_asym a b less = grind (arith, nat_tests)

-- and where neither is, they are one
less_same : (a b : ℕ × ℕ) → is_less a b ≡ false → is_less b a ≡ false → a ≡ b
less_same (h, k) (h', k') one other =
    let first : h ≡ h' = grind (arith, nat_tests) in
    let second : k ≡ k' = grind (arith, nat_tests) in
    cc

-- a pair goes behind a head that is less
put_in-behind : (pair head : ℕ × ℕ) (rest : List (ℕ × ℕ)) → is_less head pair ≡ true
    → put_in pair (head ∷ rest) ≡ head ∷ put_in pair rest
put_in-behind pair head rest less =
    cond-true (is_less head pair) (head ∷ put_in pair rest) (pair ∷ head ∷ rest) less

-- and before one that is not
put_in-before : (pair head : ℕ × ℕ) (rest : List (ℕ × ℕ)) → is_less head pair ≡ false
    → put_in pair (head ∷ rest) ≡ pair ∷ head ∷ rest
put_in-before pair head rest over =
    cond-false (is_less head pair) (head ∷ put_in pair rest) (pair ∷ head ∷ rest) over

-- two pairs, of which the first is less, put before what they are not above
put_in-both : (a b : ℕ × ℕ) (rest : List (ℕ × ℕ)) → is_less a b ≡ true → put_in a rest ≡ a ∷ rest
    → put_in b rest ≡ b ∷ rest → put_in a (put_in b rest) ≡ put_in b (put_in a rest)
put_in-both a b rest less first second =
    ap (put_in a) second ∙ put_in-before a b rest (less_asym a b less) ∙ ap (λ xs. a ∷ xs)
    (sym second) ∙ sym (put_in-behind b a rest less) ∙ ap (put_in b) (sym first)

-- the same, whichever is less
put_in-either : (a b : ℕ × ℕ) (rest : List (ℕ × ℕ)) → put_in a rest ≡ a ∷ rest
    → put_in b rest ≡ b ∷ rest → put_in a (put_in b rest) ≡ put_in b (put_in a rest)
put_in-either a b rest first second =
    elim (cases_Bool (is_less a b)) [
      | inl less ↦ put_in-both a b rest less first second
      | inr over ↦
          elim (cases_Bool (is_less b a)) [
            | inl more ↦ sym (put_in-both b a rest more second first)
            | inr under ↦
                let one : a ≡ b = less_same a b over under in
                ap (λ x. put_in x (put_in b rest)) one ∙ ap (λ x. put_in b (put_in x rest))
                (sym one)
          ]
    ]

-- a pair that goes behind the head, and one that goes before it
put_in-across : (a b head : ℕ × ℕ) (rest : List (ℕ × ℕ)) → is_less head a ≡ false
    → is_less head b ≡ true → put_in a (put_in b (head ∷ rest)) ≡ put_in b (put_in a (head ∷ rest))
put_in-across a b head rest over less =
    ap (put_in a) (put_in-behind b head rest less) ∙ put_in-before a head (put_in b rest) over
    ∙ ap (λ xs. a ∷ xs) (sym (put_in-behind b head rest less))
    ∙ sym (put_in-behind b a (head ∷ rest) (less_trans a b head over less))
    ∙ ap (put_in b) (sym (put_in-before a head rest over))

-- pairs may be put in by turns
put_in-swap : (a b : ℕ × ℕ) (pairs : List (ℕ × ℕ))
    → put_in a (put_in b pairs) ≡ put_in b (put_in a pairs)
put_in-swap a b [] = put_in-either a b [] refl refl
put_in-swap a b (head ∷ rest) =
    elim (cases_Bool (is_less head a)) [
      | inl behind_a ↦
          elim (cases_Bool (is_less head b)) [
            | inl behind_b ↦
                ap (put_in a) (put_in-behind b head rest behind_b) ∙ put_in-behind a head
                (put_in b rest) behind_a
                ∙ ap (λ xs. head ∷ xs) (put_in-swap a b rest)
                ∙ sym (put_in-behind b head (put_in a rest) behind_b) ∙ ap (put_in b)
                (sym (put_in-behind a head rest behind_a))
            | inr before_b ↦ sym (put_in-across b a head rest before_b behind_a)
          ]
      | inr before_a ↦
          elim (cases_Bool (is_less head b)) [
            | inl behind_b ↦ put_in-across a b head rest before_a behind_b
            | inr before_b ↦
                put_in-either a b (head ∷ rest) (put_in-before a head rest before_a)
                (put_in-before b head rest before_b)
          ]
    ]

-- of three tests the first two may change places
or_swap : (x y z : Bool) → (x || (y || z)) ≡ (y || (x || z))
or_swap true true z = refl
or_swap true false z = refl
or_swap false true z = refl
or_swap false false z = refl

-- a pair that is put in passes the test, or one of the others
list_any-put_in : (good : ℕ × ℕ → Bool) (pair : ℕ × ℕ) (pairs : List (ℕ × ℕ))
    → list_any good (put_in pair pairs) ≡ (good pair || list_any good pairs)
list_any-put_in good pair [] = refl
list_any-put_in good pair (head ∷ rest) =
    elim (cases_Bool (is_less head pair)) [
      | inl less ↦
          ap (list_any good) (put_in-behind pair head rest less) ∙ ap (λ b. good head || b)
          (list_any-put_in good pair rest)
          ∙ or_swap (good head) (good pair) (list_any good rest)
      | inr over ↦ ap (list_any good) (put_in-before pair head rest over)
    ]

-- one pair more
length-put_in : (pair : ℕ × ℕ) (pairs : List (ℕ × ℕ))
    → length (put_in pair pairs) ≡ suc (length pairs)
length-put_in pair [] = refl
length-put_in pair (head ∷ rest) =
    elim (cases_Bool (is_less head pair)) [
      | inl less ↦ ap length (put_in-behind pair head rest less) ∙ ap suc (length-put_in pair rest)
      | inr over ↦ ap length (put_in-before pair head rest over)
    ]

-- some pair passes the test in order where one does
pub list_any-in_order : (good : ℕ × ℕ → Bool) (pairs : List (ℕ × ℕ))
    → list_any good (in_order pairs) ≡ list_any good pairs
list_any-in_order good [] = refl
list_any-in_order good (pair ∷ rest) =
    list_any-put_in good pair (in_order rest) ∙ ap (λ b. good pair || b)
    (list_any-in_order good rest)

-- no pair is lost
pub length-in_order : (pairs : List (ℕ × ℕ)) → length (in_order pairs) ≡ length pairs
length-in_order [] = refl
length-in_order (pair ∷ rest) = length-put_in pair (in_order rest) ∙ ap suc (length-in_order rest)

-- 1 where the test holds, and else 0
abbrev bit : Bool → ℕ
bit b = cond b 1 0

-- the test of a pair, at that pair and where it holds
is_pair-refl : (pair : ℕ × ℕ) → is_pair pair.0 pair.1 pair ≡ true
is_pair-refl (h, k) = grind (arith, nat_tests)

is_pair-equal : (pair other : ℕ × ℕ) → is_pair pair.0 pair.1 other ≡ true → other ≡ pair
is_pair-equal (h, k) (h', k') holds =
    let first : h' ≡ h = grind (arith, nat_tests) in
    let second : k' ≡ k = grind (arith, nat_tests) in
    cc

-- the pairs without the first that is this one
abbrev without : ℕ × ℕ → List (ℕ × ℕ) → List (ℕ × ℕ)
without pair [] = []
without pair (head ∷ rest) = cond (is_pair pair.0 pair.1 head) rest (head ∷ without pair rest)

-- the pair is counted once less
count_by-without : (h k : ℕ) (pair : ℕ × ℕ) (pairs : List (ℕ × ℕ))
    → 0 < count_by (is_pair pair.0 pair.1) pairs → count_by (is_pair h k) (without pair pairs) + bit
    (is_pair h k pair) ≡ count_by (is_pair h k) pairs
count_by-without h k pair [] some = absurd (omega (arith, some))
count_by-without h k pair (head ∷ rest) some =
    let all = sum_by-cons (λ p. bit (is_pair h k p)) head rest in
    let own = sum_by-cons (λ p. bit (is_pair pair.0 pair.1 p)) head rest in
    elim (cases_Bool (is_pair pair.0 pair.1 head)) [
      | inl holds ↦
          let left =
          ap (count_by (is_pair h k))
          (cond-true (is_pair pair.0 pair.1 head) rest (head ∷ without pair rest) holds) in
          omega (arith, all, left, ap (λ p. bit (is_pair h k p)) (is_pair-equal pair head holds))
      | inr fails ↦
          let left =
          ap (count_by (is_pair h k))
          (cond-false (is_pair pair.0 pair.1 head) rest (head ∷ without pair rest) fails) in
          let later = count_by-without h k pair rest (omega (arith, some, own, ap bit fails)) in
          omega
          (arith, all, left, later, sum_by-cons (λ p. bit (is_pair h k p)) head (without pair rest))
    ]

-- it may be put in last
in_order-without : (pair : ℕ × ℕ) (pairs : List (ℕ × ℕ))
    → 0 < count_by (is_pair pair.0 pair.1) pairs
    → in_order pairs ≡ put_in pair (in_order (without pair pairs))
in_order-without pair [] some = absurd (omega (arith, some))
in_order-without pair (head ∷ rest) some =
    let own = sum_by-cons (λ p. bit (is_pair pair.0 pair.1 p)) head rest in
    elim (cases_Bool (is_pair pair.0 pair.1 head)) [
      | inl holds ↦
          let left = cond-true (is_pair pair.0 pair.1 head) rest (head ∷ without pair rest) holds in
          ap (λ p. put_in p (in_order rest)) (is_pair-equal pair head holds) ∙ ap
          (λ ps. put_in pair (in_order ps)) (sym left)
      | inr fails ↦
          let left =
          cond-false (is_pair pair.0 pair.1 head) rest (head ∷ without pair rest) fails in
          ap (put_in head) (in_order-without pair rest (omega (arith, some, own, ap bit fails)))
          ∙ put_in-swap head pair (in_order (without pair rest)) ∙ ap
          (λ ps. put_in pair (in_order ps)) (sym left)
    ]

-- lists that have each pair as often have one order
pub in_order-same : (xs ys : List (ℕ × ℕ))
    → ((h k : ℕ) → count_by (is_pair h k) xs ≡ count_by (is_pair h k) ys)
    → in_order xs ≡ in_order ys
in_order-same [] [] same = refl
in_order-same [] (pair ∷ rest) same =
    absurd (omega (
      arith,
      same pair.0 pair.1,
      sum_by-cons (λ p. bit (is_pair pair.0 pair.1 p)) pair
          rest,
      ap bit (is_pair-refl pair),
    ))
in_order-same (pair ∷ rest) ys same =
    let some : 0 < count_by (is_pair pair.0 pair.1) ys =
    omega (
      arith,
      same pair.0 pair.1,
      sum_by-cons (λ p. bit (is_pair pair.0 pair.1 p)) pair
          rest,
      ap bit (is_pair-refl pair),
    ) in
    let later =
    in_order-same rest (without pair ys) (λ h k. omega (
      arith,
      same h k,
      sum_by-cons
          (λ p. bit (is_pair h k p)) pair rest,
      count_by-without h k pair ys some,
    )) in
    ap (put_in pair) later ∙ sym (in_order-without pair ys some)
