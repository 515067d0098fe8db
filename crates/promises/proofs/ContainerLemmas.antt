-- The first token of a walk along a hash.
use Rattle.std.proofs.Common.{◌≡◌, ◌==◌, ℕ, Bool, true, false, List, Option, Some, None, IfSome, cond, count_by, ap, refl, subst}
use Rattle.std.proofs.Common.{if◌then◌else◌, arith}
use Rattle.std.proofs.lemmas.Bool.{eq-eqb}
use Rattle.std.proofs.lemmas.List.Sums.{sum_by-cons}
use Rattle.std.specs.Int.NonZero.{non_zero_u32_get as number}
use Rattle.std.specs.declared.num.NonZeroU32.{NonZeroU32 as Token}
use Rattle.std.specs.Iterator.{YieldsFirstBy}
use Rattle.quick_cache_containers.specs.Table.{Table, IsTokensOf, has_pair}

-- it has a pair of that hash
pub first-there : (table : Table) (hash : ℕ) (tokens : List ℕ) → IsTokensOf table hash tokens
    → (found : Option Token) (rest : List ℕ)
    → YieldsFirstBy number (λ (left : List ℕ). left) tokens found rest
    → IfSome found (λ token. has_pair table hash (number token) ≡ true)
first-there table hash tokens are None rest gives = tt
first-there table hash tokens are (Some token) rest gives =
    there (has_pair table hash (number token)) (are (number token))
  where
    there : (has : Bool)
        → count_by (λ k. k == number token) tokens ≡ (if has then 1 else 0) → has ≡ true
    there true counts = refl
    there false counts =
        let none = subst (λ (l : List ℕ). count_by (λ k. k == number token) l ≡ 0) gives counts in
        let one = ap {B = ℕ} (λ (is : Bool). cond is 1 0) (eq-eqb (number token) (number token) refl) in
        absurd (omega (
          arith,
          none,
          one,
          sum_by-cons (λ k. cond (k == number token) 1 0) (number token) rest,
        ))
