-- A lane that is left behind by turning its bit over.
use Rattle.std.proofs.Common.{◌≡◌, ◌≢◌, ℕ, suc, ◌+◌, ◌-◌, ◌*◌, ◌%◌, ◌^◌, ◌<◌, ap, ◌∙◌, inl, inr, arith, bit_and, bit_xor}
use Rattle.std.specs.Int.{bit_at, trailing_zeros, w64}
use Rattle.std.proofs.lemmas.Bool.Decides.{leb_tells}
use Rattle.std.proofs.lemmas.Nat.Bits.{bit_at-lt, bit_at_xor, bit_at-pow_same, bit_at-pow_other, bit_at-trailing_zeros}
use Rattle.std.proofs.lemmas.Nat.Bits.{same_from_bits_below}
use Rattle.std.proofs.lemmas.Nat.{and_le_l, one_shl, xor_lt}
use Rattle.std.proofs.Math.Pow.{pow-lt}
use Rattle.quick_cache_index.proofs.GroupLanes.{IsLowestBit, trailing_zeros-IsLowestBit}

-- the lowest bit turned over leaves the number without it
pub turned_lowest : (n : ℕ) → 0 < n → n < 2 ^ 64
    → bit_xor n (1 * 2 ^ trailing_zeros w64 n % 2 ^ 64) ≡ bit_and n (n - 1)
turned_lowest n some small =
    let t : ℕ = trailing_zeros w64 n in
    let lowest = trailing_zeros-IsLowestBit n some small in
    let inside : t < 64 = (bit_at-trailing_zeros w64 n some small).0 in
    ap (bit_xor n) (one_shl t 64 inside) ∙ same_from_bits_below 64 (bit_xor n (2 ^ t))
    (bit_and n (n - 1)) (xor_lt 64 n (2 ^ t) small (pow-lt inside))
    (omega (arith, and_le_l n (n - 1), small)) (λ i within. bit_at_xor n (2 ^ t) i ∙ at i lowest)
  where
    at : (i : ℕ) → IsLowestBit n (trailing_zeros w64 n)
        → (bit_at n i + bit_at (2 ^ trailing_zeros w64 n) i) % 2 ≡ bit_at (bit_and n (n - 1)) i
    at i lowest =
        let t : ℕ = trailing_zeros w64 n in
        elim (leb_tells (suc t) i) [
          | inl r ↦
              let other : i ≢ t = λ same. absurd (omega (arith, r.1, same)) in
              omega (arith, bit_at-pow_other t i other, lowest.above i r.1, bit_at-lt n i)
          | inr r ↦ elim (leb_tells t i) [
            | inl q ↦
                let same : i ≡ t = omega (arith, r.1, q.1) in
                let set : bit_at n i ≡ 1 = ap (bit_at n) same ∙ lowest.set in
                let pow : bit_at (2 ^ t) i ≡ 1 = ap (bit_at (2 ^ t)) same ∙ bit_at-pow_same t in
                omega (arith, set, pow, lowest.gone i (omega (arith, same)))
            | inr q ↦
                let less : i < t = omega (arith, q.1) in
                let other : i ≢ t = λ same. absurd (omega (arith, less, same)) in
                omega (
                  arith,
                  lowest.below i less,
                  bit_at-pow_other t i other,
                  lowest.gone i (omega (arith, less)),
                )
          ]
        ]
