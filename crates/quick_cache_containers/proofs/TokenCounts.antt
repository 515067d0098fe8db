-- How often a token stands in a list, and how long a list can be that has each token once.
use Rattle.std.proofs.Common.{◌≡◌, ◌≢◌, ℕ, zero, suc, ◌+◌, ◌<◌, ◌≤◌, true, false, true≢false, eqb, List, [], ◌∷◌, ◌++◌, length, refl, sym}
use Rattle.std.proofs.Common.{ap, subst, inl, inr, arith}
use Rattle.std.proofs.lemmas.Bool.{cases_eq, cases_Bool, eqb-false, eq-eqb, ne_eqb}
use Rattle.std.proofs.lemmas.Map.Steps.{length-le_from_distinct_below}
use Rattle.std.specs.List.{IsDistinct, AllByRecursion, list_any}
use Rattle.quick_cache_containers.specs.LinkedSlab.{times, without}

-- ---- how often a token stands in a list

pub zero_from_none : (n : ℕ) → (0 < n → ⊥) → n ≡ 0
zero_from_none zero none = refl
zero_from_none (suc n) none = absurd (none (omega arith))

pub times-here : (t : ℕ) (xs : List ℕ) → times t (t ∷ xs) ≡ 1 + times t xs
times-here t xs = rw (eq-eqb t t refl)

pub times-other : (t x : ℕ) (xs : List ℕ) → x ≢ t → times t (x ∷ xs) ≡ times t xs
times-other t x xs differs = rw (ne_eqb x t differs) (omega arith)

pub times-append : (t : ℕ) (xs ys : List ℕ) → times t (xs ++ ys) ≡ times t xs + times t ys
times-append t [] ys = omega arith
times-append t (x ∷ xs) ys = omega (arith, times-append t xs ys)

pub without_none : (a : ℕ) (xs : List ℕ) → times a xs ≡ 0 → without a xs ≡ xs
without_none a [] none = refl
without_none a (x ∷ xs) none =
    elim (cases_Bool (eqb x a)) [
      | inl hit ↦ absurd (omega (arith, rw hit at none))
      | inr miss ↦ rw miss (ap (λ ys. x ∷ ys) (without_none a xs (omega (arith, rw miss at none))))
    ]

pub times-without_le : (t a : ℕ) (xs : List ℕ) → times t (without a xs) ≤ times t xs
times-without_le t a [] = omega arith
times-without_le t a (x ∷ xs) =
    elim (cases_Bool (eqb x a)) [
      | inl hit ↦ rw hit (omega (arith, times-without_le t a xs))
      | inr miss ↦ rw miss (omega (arith, times-without_le t a xs))
    ]

-- ---- no more tokens than slots

apart_from_none : (x : ℕ) (xs : List ℕ) → times x xs ≡ 0 → AllByRecursion (λ y. eqb x y ≡ false) xs
apart_from_none x [] none = tt
apart_from_none x (y ∷ ys) none =
    elim (cases_Bool (eqb y x)) [
      | inl hit ↦ absurd (omega (arith, rw hit at none))
      | inr miss ↦ (
        ne_eqb x y (λ e. eqb-false y x miss (sym e)),
        apart_from_none x ys
            (omega (arith, rw miss at none)),
      )
    ]

distinct_from_once : (xs : List ℕ) → ((t : ℕ) → times t xs ≤ 1) → IsDistinct eqb xs
unfolding IsDistinct
distinct_from_once [] once = tt
distinct_from_once (x ∷ xs) once = (
  apart_from_none x xs (omega (arith, once x, times-here x xs)),
  distinct_from_once xs
      (λ t. omega (arith, once t)),
)

times_from_any : (t : ℕ) (xs : List ℕ) → list_any (eqb t) xs ≡ true → 0 < times t xs
times_from_any t [] found = absurd (true≢false (sym found))
times_from_any t (x ∷ xs) found =
    elim (cases_eq x t) [
      | inl same ↦ rw (eq-eqb x t same) (omega arith)
      | inr differs ↦ omega (
        arith,
        times_from_any t xs
            (rw (ne_eqb t x (λ e. differs (sym e))) at found),
      )
    ]

-- tokens from 1 to n, each once, are at most n
pub length_once : (xs : List ℕ) (n : ℕ) → ((t : ℕ) → times t xs ≤ 1)
    → ((t : ℕ) → 0 < times t xs → (0 < t) × (t ≤ n)) → length xs ≤ n
length_once xs n once within =
    let none : times 0 xs ≡ 0 = zero_from_none (times 0 xs)
    (λ some. omega (arith, (within 0 some).0)) in
    let whole : (t : ℕ) → times t (0 ∷ xs) ≤ 1 =
    λ t. elim (cases_eq 0 t) [
      | inl same ↦ subst (λ (u : ℕ). times u (0 ∷ xs) ≤ 1) same (omega (arith, times-here 0 xs))
      | inr differs ↦ omega (arith, times-other t 0 xs differs, once t)
    ] in
    omega (
      arith,
      length-le_from_distinct_below (0 ∷ xs) (n + 1) (distinct_from_once (0 ∷ xs) whole)
          (λ q found. below q (times_from_any q (0 ∷ xs) found)),
    )
  where
    below : (q : ℕ) → 0 < times q (0 ∷ xs) → q < n + 1
    below q found =
        elim (cases_eq 0 q) [
          | inl same ↦ omega arith
          | inr differs ↦ omega (arith, within q (omega (arith, times-other q 0 xs differs)))
        ]
