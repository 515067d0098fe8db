-- Conjunctions, alternatives and negations of tests, taken apart and put together.
use Rattle.std.proofs.Common.{◌≡◌, ℕ, ◌==◌, Bool, true, false, not, ◌&&◌, ◌||◌, MatchBool, refl, arith}
use Rattle.std.proofs.lemmas.Bool.Decides.{nat_tests}

-- both parts of a conjunction that holds
pub both : (a b : Bool) → (a && b) ≡ true → (a ≡ true) × (b ≡ true)
both true true e = (refl, refl)
both true false e = absurd (cc)
both false b e = absurd (cc)

-- a negation that holds
pub not-true : (a : Bool) → not a ≡ true → a ≡ false
not-true false e = refl
not-true true e = absurd (cc)

-- and one that fails
pub not-false : (a : Bool) → not a ≡ false → a ≡ true
not-false true e = refl
not-false false e = absurd (cc)

-- two alternatives that fail, taken together
pub neither : (a b : Bool) → a ≡ false → b ≡ false → (a || b) ≡ false
neither false false e f = refl
neither true b e f = absurd (cc)
neither false true e f = absurd (cc)

-- and taken apart
pub both-false : (a b : Bool) → (a || b) ≡ false → (a ≡ false) × (b ≡ false)
both-false false false e = (refl, refl)
both-false true b e = absurd (cc)
both-false false true e = absurd (cc)

-- an alternative to a test that fails
pub or-false : (a b : Bool) → a ≡ false → b ≡ true → (a || b) ≡ true
or-false false true e f = refl
or-false true b e f = absurd (cc)
or-false false false e f = absurd (cc)

-- what is left of an alternative once one fails
pub or-left : (a b : Bool) → a ≡ false → (a || b) ≡ true → b ≡ true
or-left false b e f = f
or-left true b e f = absurd (cc)

-- a number is itself
pub same-number : (n : ℕ) → (n == n) ≡ true
same-number n = grind (arith, nat_tests)

-- the test of two numbers goes either way
pub same-test : (m n : ℕ) → (m == n) ≡ (n == m)
same-test m n = grind (arith, nat_tests)

-- a choice by a test, taken apart
pub match_bool : {P Q R : Type 0} (b : Bool) → (b ≡ true → P → R) → (b ≡ false → Q → R)
    → MatchBool b P Q → R
match_bool true f g chosen = f refl chosen
match_bool false f g chosen = g refl chosen
