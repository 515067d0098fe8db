-- How often a token stands in a list, and how long a list can be that has each token once.
use Rattle.std.proofs.Common.{◌≡◌, ◌≢◌, ℕ, zero, suc, ◌+◌, ◌<◌, ◌≤◌, List, [], ◌∷◌, ◌++◌, length, reverse, get_or, refl, inl, inr, arith}
use Rattle.std.proofs.lemmas.Bool.{cases_eq, eq-eqb, ne_eqb}
use Rattle.std.proofs.lemmas.Grind.{reverse_onto}
use Rattle.quick_cache_store.specs.Pool.{times}

-- ---- how often a token stands in a list

pub zero_from_none : (n : ℕ) → (0 < n → ⊥) → n ≡ 0
zero_from_none zero none = refl
zero_from_none (suc n) none = absurd (none (omega arith))

pub times-here : (t : ℕ) (xs : List ℕ) → times t (t ∷ xs) ≡ 1 + times t xs
times-here t xs = rw (eq-eqb t t refl)

pub times-other : (t x : ℕ) (xs : List ℕ) → x ≢ t → times t (x ∷ xs) ≡ times t xs
times-other t x xs differs = rw (ne_eqb x t differs) (omega arith)

pub times-append : (t : ℕ) (xs ys : List ℕ) → times t (xs ++ ys) ≡ times t xs + times t ys
times-append t [] ys = omega arith
times-append t (x ∷ xs) ys = omega (arith, times-append t xs ys)

pub times-cons_le : (t x : ℕ) (xs : List ℕ) → times t xs ≤ times t (x ∷ xs)
times-cons_le t x xs = omega arith

pub times-push_same : (t : ℕ) (xs : List ℕ) → times t (xs ++ t ∷ []) ≡ times t xs + 1
times-push_same t xs = omega (arith, times-append t xs (t ∷ []), times-here t [])

pub times-push_other : (t x : ℕ) (xs : List ℕ) → x ≢ t → times t (xs ++ x ∷ []) ≡ times t xs
times-push_other t x xs differs =
    omega (arith, times-append t xs (x ∷ []), times-other t x [] differs)

pub times-reverse : (t : ℕ) (xs : List ℕ) → times t (reverse xs) ≡ times t xs
times-reverse t [] = refl
times-reverse t (x ∷ xs) =
    rw (reverse_onto xs x [])
    (omega (arith, times-append t (reverse xs) (x ∷ []), times-reverse t xs))

-- a token that stands somewhere
pub times-at : (t i : ℕ) (xs : List ℕ) → get_or xs i 0 ≡ t → 0 < t → 0 < times t xs
times-at t i [] at positive = absurd (omega arith)
times-at t zero (x ∷ xs) at positive = rw (eq-eqb x t at) (omega arith)
times-at t (suc i) (x ∷ xs) at positive = omega (arith, times-at t i xs at positive)

pub times-got : (i : ℕ) (xs : List ℕ) (d : ℕ) → i < length xs → 0 < times (get_or xs i d) xs
times-got i [] d below = absurd (omega arith)
times-got zero (x ∷ xs) d below = omega (arith, times-here x xs)
times-got (suc i) (x ∷ xs) d below =
    omega (arith, times-got i xs d (omega arith), times-cons_le (get_or xs i d) x xs)

-- ---- each token behind some, counted

-- how often the next n tokens behind `passed` stand in a list
abbrev pub tally : List ℕ → (passed n : ℕ) → ℕ
tally xs passed zero = 0
tally xs passed (suc n) = times (passed + 1) xs + tally xs (passed + 1) n

tally-none : (passed n : ℕ) → tally [] passed n ≡ 0
tally-none passed zero = refl
tally-none passed (suc n) = omega (arith, tally-none (passed + 1) n)

-- a token before them
tally-before : (x : ℕ) (xs : List ℕ) (passed n : ℕ) → x ≤ passed
    → tally (x ∷ xs) passed n ≡ tally xs passed n
tally-before x xs passed zero before = refl
tally-before x xs passed (suc n) before =
    let other : x ≢ passed + 1 = λ e. omega (arith, e) in
    omega (
      arith,
      times-other (passed + 1) x xs other,
      tally-before x xs (passed + 1) n (omega arith),
    )

-- one of them
tally-among : (x : ℕ) (xs : List ℕ) (passed n : ℕ) → passed < x → x ≤ passed + n
    → tally (x ∷ xs) passed n ≡ tally xs passed n + 1
tally-among x xs passed zero past within = absurd (omega arith)
tally-among x xs passed (suc n) past within =
    elim (cases_eq x (passed + 1)) [
      | inl same ↦ rw (eq-eqb x (passed + 1) same)
          (omega (arith, tally-before x xs (passed + 1) n (omega arith)))
      | inr differs ↦ omega (
        arith,
        times-other (passed + 1) x xs differs,
        tally-among x xs (passed + 1) n (omega arith) (omega arith),
      )
    ]

-- tokens from 1 to n are counted by counting each
pub tally-all : (xs : List ℕ) (n : ℕ) → ((t : ℕ) → 0 < times t xs → (0 < t) × (t ≤ n))
    → tally xs 0 n ≡ length xs
tally-all [] n within = tally-none 0 n
tally-all (x ∷ xs) n within =
    let here = within x (omega (arith, times-here x xs)) in
    omega (
      arith,
      tally-among x xs 0 n here.0 (omega (arith, here.1)),
      tally-all xs n (λ t some. within t (omega (arith, times-cons_le t x xs))),
    )

tally-few : (xs : List ℕ) (passed n : ℕ) → ((t : ℕ) → times t xs ≤ 1) → tally xs passed n ≤ n
tally-few xs passed zero once = omega arith
tally-few xs passed (suc n) once =
    omega (arith, once (passed + 1), tally-few xs (passed + 1) n once)

-- tokens from 1 to n, each once, are at most n
pub length_once : (xs : List ℕ) (n : ℕ) → ((t : ℕ) → times t xs ≤ 1)
    → ((t : ℕ) → 0 < times t xs → (0 < t) × (t ≤ n)) → length xs ≤ n
length_once xs n once within = omega (arith, tally-all xs n within, tally-few xs 0 n once)
