-- What places hold, counted, and places that are written.
use Rattle.std.proofs.Common.{◌≡◌, ◌≢◌, ℕ, suc, ◌+◌, ◌<◌, ◌≤◌, ◌⊎◌, Bool, true, false, cond, not, ◌&&◌, eqb, List, [], ◌∷◌, length, get_or}
use Rattle.std.proofs.Common.{set, refl, sym, ap, subst, ◌∙◌, inl, inr, arith, count_by}
use Rattle.std.proofs.lemmas.Bool.Decides.{eqb_tells, leb_tells}
use Rattle.std.proofs.lemmas.Bool.{eqb-true, eq-eqb, ne_eqb}
use Rattle.std.proofs.lemmas.List.{get_or_past, get_or-set_same, get_or-set_other}
use Rattle.std.proofs.lemmas.List.Sums.{sum_by-cons, sum_by-set, get_or-le-sum_by}
use Rattle.quick_cache_index.specs.Index.{is_free, holds, tag_of}
use Rattle.quick_cache_index.specs.IndexGroups.{taken_count}

-- two numbers are equal or not
pub equal_or_not : (a b : ℕ) → (a ≡ b) ⊎ (a ≢ b)
equal_or_not a b = elim (eqb_tells a b) [ inl t ↦ inl t.1 | inr t ↦ inr t.1 ]

-- a test is true or false
pub bool_tells : (b : Bool) → (b ≡ true) ⊎ (b ≡ false)
bool_tells true = inl refl
bool_tells false = inr refl

-- 1 where the test holds, and else 0
abbrev pub bit : Bool → ℕ
bit b = cond b 1 0

-- a number above 0 stands within the list
pub inside-some : (xs : List ℕ) (p : ℕ) → 0 < get_or xs p 0 → p < length xs
inside-some xs p some =
    elim (leb_tells (length xs) p) [
      | inl past ↦ absurd (omega (arith, some, get_or_past xs p 0 past.1))
      | inr within ↦ omega (arith, within.1)
    ]

-- a count after a write
pub count_by-set : (good : ℕ → Bool) (xs : List ℕ) (p x : ℕ) → p < length xs
    → count_by good (set xs p x) + bit (good (get_or xs p 0)) ≡ count_by good xs + bit (good x)
count_by-set good xs p x inside = sum_by-set (λ y. bit (good y)) xs p x 0 inside

-- where some pass a test, one can be named
pub position_of_some : (p : ℕ → Bool) (xs : List ℕ) → 0 < count_by p xs
    → (i : ℕ) × (i < length xs) × (p (get_or xs i 0) ≡ true)
position_of_some p [] some = absurd (omega (arith, some))
position_of_some p (x ∷ xs) some =
    elim (bool_tells (p x)) [
      | inl passes ↦ (0, omega arith, passes)
      | inr fails ↦
          let later =
          position_of_some p xs
          (omega (arith, some, sum_by-cons (λ y. bit (p y)) x xs, ap bit fails)) in
          (suc later.0, omega (arith, later.1), later.2)
    ]

bit-not : (b : Bool) → bit (not b) + bit b ≡ 1
bit-not true = refl
bit-not false = refl

-- each place has a token or is free
pub taken_count-free : (tokens : List ℕ)
    → taken_count tokens + count_by is_free tokens ≡ length tokens
taken_count-free [] = refl
taken_count-free (token ∷ rest) =
    omega (
      arith,
      taken_count-free rest,
      sum_by-cons (λ t. bit (not (is_free t))) token rest,
      sum_by-cons (λ t. bit (is_free t)) token rest,
      bit-not (is_free token),
    )

and_right : (a b : Bool) → (a && b) ≡ true → b ≡ true
and_right true b e = e
and_right false b e = absurd (cc)

-- a place that has the token
pub holds-itself : (token : ℕ) → 0 < token → holds token token ≡ true
holds-itself token some =
    ap (λ b. not b && (eqb token token)) (ne_eqb token 0 (λ e. omega (arith, some, e)))
    ∙ eq-eqb token token refl

pub holds-true : (token place : ℕ) → holds token place ≡ true → (0 < token) × (place ≡ token)
holds-true token place passes =
    let same = eqb-true place token (and_right (not (is_free place)) (eqb place token) passes) in
    elim (equal_or_not place 0) [
      | inl zero_is ↦
          let contrary : false ≡ true =
          sym (ap (λ b. not b && (eqb place token)) (eq-eqb place 0 zero_is)) ∙ passes in
          absurd (cc)
      | inr some ↦ (omega (arith, same, some), same)
    ]

pub holds-other : (token place : ℕ) → place ≢ token → holds token place ≡ false
holds-other token place other =
    elim (bool_tells (holds token place)) [
      | inl passes ↦ absurd (other (holds-true token place passes).1)
      | inr fails ↦ fails
    ]

-- a token that is counted has a place
pub place_of : (tokens : List ℕ) (token : ℕ) → 0 < count_by (holds token) tokens
    → (0 < token) × (position : ℕ) × (get_or tokens position 0 ≡ token)
place_of tokens token some =
    let at = position_of_some (holds token) tokens some in
    let parts = holds-true token (get_or tokens at.0 0) at.2 in
    (parts.0, at.0, parts.1)

-- and a token that has a place is counted
pub count_by-place : (tokens : List ℕ) (position token : ℕ) → 0 < token
    → get_or tokens position 0 ≡ token → 0 < count_by (holds token) tokens
count_by-place tokens position token some there =
    omega (
      arith,
      ap bit (ap (holds token) there ∙ holds-itself token some),
      get_or-le-sum_by (λ t. bit (holds token t)) tokens position 0
          (inside-some tokens position (omega (arith, some, there))),
    )

-- a free place takes a token, which is counted once more, and the others as before
pub count_by-take : (tokens : List ℕ) (position token other : ℕ) → position < length tokens
    → get_or tokens position 0 ≡ 0 → count_by (holds other) (set tokens position token)
    ≡ count_by (holds other) tokens + bit (holds other token)
count_by-take tokens position token other inside free =
    omega (
      arith,
      count_by-set (holds other) tokens position token inside,
      ap (λ t. bit (holds other t)) free,
    )

pub taken_count-take : (tokens : List ℕ) (position token : ℕ) → position < length tokens
    → get_or tokens position 0 ≡ 0 → 0 < token
    → taken_count (set tokens position token) ≡ taken_count tokens + 1
taken_count-take tokens position token inside free some =
    omega (
      arith,
      count_by-set (λ t. not (is_free t)) tokens position token inside,
      ap (λ t. bit (not (is_free t))) free,
      ap (λ b. bit (not b)) (ne_eqb token 0 (λ e. omega (arith, some, e))),
    )

-- a place is freed: its token is counted once less
pub count_by-leave : (tokens : List ℕ) (position token other : ℕ) → 0 < token
    → get_or tokens position 0 ≡ token → count_by (holds other) (set tokens position 0)
    + bit (holds other token) ≡ count_by (holds other) tokens
count_by-leave tokens position token other some there =
    omega (
      arith,
      count_by-set (holds other) tokens position 0
          (inside-some tokens position (omega (arith, some, there))),
      ap (λ t. bit (holds other t)) there,
    )

pub taken_count-leave : (tokens : List ℕ) (position token : ℕ) → 0 < token
    → get_or tokens position 0 ≡ token
    → taken_count (set tokens position 0) + 1 ≡ taken_count tokens
taken_count-leave tokens position token some there =
    omega (
      arith,
      count_by-set (λ t. not (is_free t)) tokens position 0
          (inside-some tokens position (omega (arith, some, there))),
      ap (λ t. bit (not (is_free t))) there,
      ap (λ b. bit (not b)) (ne_eqb token 0 (λ e. omega (arith, some, e))),
    )

-- a bound of each number stays where one within it is written
pub within-set : (xs : List ℕ) (i x bound : ℕ) → i < length xs → x ≤ bound
    → ((j : ℕ) → get_or xs j 0 ≤ bound) → (j : ℕ) → get_or (set xs i x) j 0 ≤ bound
within-set xs i x bound inside small within j =
    elim (equal_or_not j i) [
      | inl same ↦
          subst (λ n. get_or (set xs i x) n 0 ≤ bound) (sym same)
          (omega (arith, small, get_or-set_same xs i x 0 inside))
      | inr other ↦ omega (arith, get_or-set_other xs i j x 0 other, within j)
    ]

-- each tag is more than 0
pub tag_of-pos : (hash : ℕ) → 0 < tag_of hash
tag_of-pos hash = omega arith
