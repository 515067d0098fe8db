-- Powers of two: half of one is one, and of two that differ the greater is at least the double.
use Rattle.std.proofs.Common.{◌≡◌, ℕ, zero, suc, ◌*◌, ◌/◌, ◌^◌, ◌<◌, ◌≤◌, ap, arith}
use Rattle.std.proofs.lemmas.Nat.{pow_below, pow_pos}
use Rattle.std.proofs.Math.Nat.{pow-suc}
use Rattle.std.specs.Int.{IsPowerOfTwo}

-- a power of two is at least 1
pub IsPowerOfTwo-pos : (a : ℕ) → IsPowerOfTwo a → 1 ≤ a
IsPowerOfTwo-pos a (i, is_power) = omega (arith, is_power, pow_pos i)

-- half of a power of two above 1 is a power of two
pub half-IsPowerOfTwo : (a : ℕ) → IsPowerOfTwo a → 1 < a → IsPowerOfTwo (a / 2)
half-IsPowerOfTwo a (zero, is_power) above = absurd (omega arith)
half-IsPowerOfTwo a (suc i, is_power) above = (i, omega (arith, is_power, pow-suc 2 i))

-- twice the half of a power of two above 1 is that power
pub half-double : (a : ℕ) → IsPowerOfTwo a → 1 < a → a / 2 * 2 ≡ a
half-double a (zero, is_power) above = absurd (omega arith)
half-double a (suc i, is_power) above = omega (arith, is_power, pow-suc 2 i)

-- a greater power of two is at least the double
pub IsPowerOfTwo-double : (a b : ℕ) → IsPowerOfTwo a → IsPowerOfTwo b → a < b → a * 2 ≤ b
IsPowerOfTwo-double a b (i, a_is) (j, b_is) above =
    let same : i ≡ j → 2 ^ i ≡ 2 ^ j = λ e. ap (λ n. 2 ^ n) e in
    let less : i < j = grind (arith, same, pow_below j i) in
    let next : suc i ≡ j → 2 ^ suc i ≡ 2 ^ j = λ e. ap (λ n. 2 ^ n) e in
    grind (arith, next, pow_below (suc i) j, pow-suc 2 i)
