-- Sums of sizes.
use Rattle.std.specs.Prelude.{◌≡◌, ℕ, ◌+◌, ◌-◌, ◌^◌, ◌≤◌, List, [], ◌∷◌, length, sum_by, fold}
use Rattle.std.proofs.Common.{arith, refl, ◌∙◌}
use Rattle.std.proofs.lemmas.List.Sums.{sum_by-cons}
use Rattle.quick_cache_listeners.specs.Bytes.{capped, bytes_in}

-- a sum of ones is the length
pub sum_by-one : {X : Type 0} (items : List X) → sum_by (λ _. 1) items ≡ length items
sum_by-one [] = refl
sum_by-one (first ∷ rest) = omega (arith, sum_by-cons (λ _. 1) first rest, sum_by-one rest)

-- and is not capped where the length is no greater
pub bytes_in-one : {X : Type 0} (items : List X) → length items ≤ 2 ^ 64 - 1
    → bytes_in (λ _. 1) items ≡ length items
bytes_in-one items short = omega (arith, sum_by-one items, short)

-- where nothing is left, what was added is all
pub total-at_end : {X : Type 0} (bytes : X → ℕ) (total : ℕ) (rest : List X) (all : ℕ)
    → all ≡ capped (total + sum_by bytes rest) → length rest ≡ 0 → total ≤ 2 ^ 64 - 1 → total ≡ all
total-at_end bytes total [] all is none within = omega (arith, is, within)
total-at_end bytes total (first ∷ rest) all is none within = absurd (omega (arith, none))

module _ {W : Type 0} (bytes_of : W → ℕ) (write : W → List ℕ → W)
    (writes-bytes : (written : W) (bytes : List ℕ)
    → bytes_of (write written bytes) ≡ capped (bytes_of written + length bytes)) where
  -- writes that are counted one by one come to their sum
  pub counted-writes : (written : W) (writes : List (List ℕ)) → bytes_of written ≤ 2 ^ 64 - 1
      → bytes_of (fold write written writes) ≡ capped (bytes_of written + sum_by length writes)
  counted-writes written [] within = omega (arith, within)
  counted-writes written (first ∷ rest) within =
      counted-writes (write written first) rest (omega (arith, writes-bytes written first))
      ∙ omega (arith, writes-bytes written first, sum_by-cons (length {A = ℕ}) first rest)
