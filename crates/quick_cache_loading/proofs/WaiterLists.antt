-- Lists of distinct waiters, through the changes that the core makes to them.
use Rattle.std.proofs.Common.{◌≡◌, ℕ, ◌==◌, Bool, true, false, not, ◌&&◌, ◌||◌, List, [], ◌∷◌, ◌++◌, ◌⊎◌, inl, inr, refl, sym, ◌∙◌, ap}
use Rattle.std.proofs.Common.{cond, arith}
use Rattle.std.proofs.lemmas.Bool.Decides.{nat_tests}
use Rattle.quick_cache_loading.proofs.BoolLemmas.{both, not-true, same-number, same-test}
use Rattle.quick_cache_loading.specs.Waiting.{has, without_waiter, is_distinct}
use Rattle.quick_cache_loading.specs.Core.{is_handed_to, is_apart, is_loading, is_sound}
use Rattle.quick_cache_loading.specs.Stage.{life_of}
use Rattle.quick_cache_loading.specs.declared.protocol.life.Holder.{Holder}
use Rattle.quick_cache_loading.specs.declared.protocol.life.Stage.{Stage}

-- one more waiter at the end
pub has-push : (n : ℕ) (ws : List ℕ) (m : ℕ) → has n (ws ++ m ∷ []) ≡ (has n ws || (m == n))
has-push n [] m = by_cases (m == n) where
  by_cases : (b : Bool) → (b || false) ≡ (false || b)
  by_cases true = refl
  by_cases false = refl
has-push n (w ∷ ws) m = rw (has-push n ws m) (by_cases (w == n) (has n ws) (m == n)) where
  by_cases : (a b c : Bool) → (a || (b || c)) ≡ ((a || b) || c)
  by_cases true b c = refl
  by_cases false b c = refl

pub is_distinct-push : (ws : List ℕ) (m : ℕ)
    → is_distinct (ws ++ m ∷ []) ≡ (not (has m ws) && is_distinct ws)
is_distinct-push [] m = refl
is_distinct-push (w ∷ ws) m =
    rw (has-push w ws m, is_distinct-push ws m, same-test m w)
    (by_cases (w == m) (has w ws) (has m ws) (is_distinct ws)) where
      by_cases : (a b c d : Bool) → (not (b || a) && (not c && d)) ≡ (not (a || c) && (not b && d))
      by_cases true true c d = refl
      by_cases true false c d = refl
      by_cases false true true d = refl
      by_cases false true false d = refl
      by_cases false false c d = refl

-- who is not in a list is not in it once another is taken out
has-without : (m n : ℕ) (ws : List ℕ) → has m ws ≡ false → has m (without_waiter n ws) ≡ false
has-without m n [] absent = refl
has-without m n (w ∷ ws) absent =
    by_cases (w == m) (not (w == n)) refl absent (has-without m n ws) where
      by_cases : (a b : Bool) → (w == m) ≡ a → (a || has m ws) ≡ false
          → (has m ws ≡ false → has m (without_waiter n ws) ≡ false)
          → has m (cond b (w ∷ without_waiter n ws) (without_waiter n ws)) ≡ false
      by_cases true b e h rest = absurd (cc)
      by_cases false true e h rest = rw e (rest h)
      by_cases false false e h rest = rest h

is_distinct-without : (n : ℕ) (ws : List ℕ) → is_distinct ws ≡ true
    → is_distinct (without_waiter n ws) ≡ true
is_distinct-without n [] distinct = refl
is_distinct-without n (w ∷ ws) distinct =
    by_cases (has w ws) (not (w == n)) refl distinct (is_distinct-without n ws) where
      by_cases : (a b : Bool) → has w ws ≡ a → (not a && is_distinct ws) ≡ true
          → (is_distinct ws ≡ true → is_distinct (without_waiter n ws) ≡ true)
          → is_distinct (cond b (w ∷ without_waiter n ws) (without_waiter n ws)) ≡ true
      by_cases true b e h rest = absurd (cc)
      by_cases false true e h rest = rw (has-without w n ws e) (rest h)
      by_cases false false e h rest = rest h

distinct_of : (h : Holder) (ws : List ℕ) → is_apart h ws ≡ true → is_distinct ws ≡ true
distinct_of Holder.Held ws apart = apart
distinct_of (Holder.HandedTo m) ws apart = (both (not (has m ws)) (is_distinct ws) apart).1

-- a new waiter leaves holder and waiters apart
pub is_apart-push : (h : Holder) (ws : List ℕ) (n : ℕ) → is_apart h ws ≡ true
    → is_handed_to h n ≡ false → has n ws ≡ false
    → is_apart h (ws ++ n ∷ []) ≡ true
is_apart-push Holder.Held ws n apart other absent = rw (is_distinct-push ws n, absent) apart
is_apart-push (Holder.HandedTo m) ws n apart other absent =
    let parts = both (not (has m ws)) (is_distinct ws) apart in
    rw (
      has-push m ws n,
      not-true (has m ws) parts.0,
      is_distinct-push ws n,
      absent,
      same-test n m,
      other,
    ) parts.1

-- a waiter that leaves does too
pub is_apart-without : (h : Holder) (ws : List ℕ) (n : ℕ) → is_apart h ws ≡ true
    → is_apart h (without_waiter n ws) ≡ true
is_apart-without Holder.Held ws n apart = is_distinct-without n ws apart
is_apart-without (Holder.HandedTo m) ws n apart =
    let parts = both (not (has m ws)) (is_distinct ws) apart in
    rw (has-without m n ws (not-true (has m ws) parts.0)) (is_distinct-without n ws parts.1)

-- and so does one that is taken from the end and handed the guard
is_apart-pop : (h : Holder) (ws rest : List ℕ) (m : ℕ) → is_apart h ws ≡ true → ws ≡ rest ++ m ∷ []
    → is_apart (Holder.HandedTo m) rest ≡ true
is_apart-pop h ws rest m apart is =
    sym (is_distinct-push rest m) ∙ rw is at (distinct_of h ws apart)

module _ {V : Type 0} where
  -- the same of what is stored, while it is loading
  pub pass_on_sound : (s : Stage V) (ws rest : List ℕ) (m : ℕ) → is_sound (life_of s ws) ≡ true
      → is_loading (life_of s ws) ≡ true
      → ws ≡ rest ++ m ∷ [] → is_apart (Holder.HandedTo m) rest ≡ true
  pass_on_sound (Stage.Loading h) ws rest m sound loading is = is_apart-pop h ws rest m sound is
  pass_on_sound (Stage.Filled v) ws rest m sound loading is = absurd (cc)
  pass_on_sound Stage.GivenUp ws rest m sound loading is = absurd (cc)

-- a list is empty, or has a last one
pub last-waiter : (ws : List ℕ)
    → (ws ≡ []) ⊎ ((others : List ℕ) × (m : ℕ) × (ws ≡ others ++ m ∷ []))
last-waiter [] = inl refl
last-waiter (w ∷ ws) = inr (by_rest (last-waiter ws)) where
  by_rest : (ws ≡ []) ⊎ ((others : List ℕ) × (m : ℕ) × (ws ≡ others ++ m ∷ []))
      → (others : List ℕ) × (m : ℕ) × (w ∷ ws ≡ others ++ m ∷ [])
  by_rest (inl none) = ([], w, ap (λ xs. w ∷ xs) none)
  by_rest (inr p) = (w ∷ p.0, p.1, ap (λ xs. w ∷ xs) p.2)

-- who waits still waits once another was handed the guard
pub has-handed : (n m : ℕ) (others : List ℕ) → has n (others ++ m ∷ []) ≡ true → (m == n) ≡ false
    → has n others ≡ true
has-handed n m others waiting other =
    by_cases (has n others) (m == n) (sym (has-push n others m) ∙ waiting) other where
      by_cases : (a b : Bool) → (a || b) ≡ true → b ≡ false → a ≡ true
      by_cases true b e f = refl
      by_cases false true e f = absurd (cc)
      by_cases false false e f = e

-- who waits still waits once another left
pub has-left : (n m : ℕ) (ws : List ℕ) → has n ws ≡ true → (m == n) ≡ false
    → has n (without_waiter m ws) ≡ true
has-left n m [] waiting other = waiting
has-left n m (w ∷ ws) waiting other =
    by_cases (w == n) (w == m) refl refl waiting (has-left n m ws) where
      by_cases : (a b : Bool) → (w == n) ≡ a → (w == m) ≡ b → (a || has n ws) ≡ true
          → (has n ws ≡ true → (m == n) ≡ false → has n (without_waiter m ws) ≡ true)
          → has n (cond (not b) (w ∷ without_waiter m ws) (without_waiter m ws)) ≡ true
      by_cases true true e f h rest =
          let clash : true ≡ false = grind (arith, nat_tests) in absurd (cc)
      by_cases true false e f h rest = rw e refl
      by_cases false true e f h rest = rest h other
      by_cases false false e f h rest = rw e (rest h other)

-- who waits still waits once another came
pub has-joined : (n m : ℕ) (ws : List ℕ) → has n ws ≡ true → has n (ws ++ m ∷ []) ≡ true
has-joined n m ws waiting = rw (has-push n ws m, waiting) refl

-- who comes is in the list
pub has-added : (n : ℕ) (ws : List ℕ) → has n (ws ++ n ∷ []) ≡ true
has-added n ws =
    has-push n ws n ∙ ap (λ b. has n ws || b) (same-number n) ∙ or-true (has n ws) where
      or-true : (a : Bool) → (a || true) ≡ true
      or-true true = refl
      or-true false = refl
