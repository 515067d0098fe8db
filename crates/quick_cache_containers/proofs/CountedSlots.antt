-- The slots are those with an item and those that are free.
use Rattle.std.proofs.Common.{◌≡◌, ◌≢◌, ℕ, zero, suc, ◌+◌, ◌<◌, ◌≤◌, true, false, cond, eqb, List, [], ◌∷◌, length, take, count_by, get_or}
use Rattle.std.proofs.Common.{Option, None, is_some, refl, sym, subst, ◌∙◌, inl, inr, arith}
use Rattle.std.proofs.lemmas.Bool.{cases_eq, cases_Bool, eq-eqb, ne_eqb}
use Rattle.std.proofs.lemmas.List.{take_all}
use Rattle.std.proofs.lemmas.List.Sums.{count_by_more_yes, count_by_more_no}
use Rattle.quick_cache_containers.specs.LinkedSlab.{times}
use Rattle.quick_cache_containers.specs.Links.{AreFree}
use Rattle.quick_cache_containers.proofs.TokenCounts.{times-here}

-- what a number of each token from 1 to n comes to
abbrev tally : (ℕ → ℕ) → ℕ → ℕ
tally f zero = 0
tally f (suc n) = tally f n + f (suc n)

tally-none : (n : ℕ) → tally (λ t. 0) n ≡ 0
tally-none zero = refl
tally-none (suc n) = omega (arith, tally-none n)

tally-sum : (f g : ℕ → ℕ) (n : ℕ) → tally (λ t. f t + g t) n ≡ tally f n + tally g n
tally-sum f g zero = omega arith
tally-sum f g (suc n) = omega (arith, tally-sum f g n)

-- one token is in none of the first so many, or is one of them
tally-past : (x n : ℕ) → n < x → tally (λ t. cond (eqb x t) 1 0) n ≡ 0
tally-past x zero past = refl
tally-past x (suc n) past =
    let other : x ≢ suc n = λ e. omega (arith, e) in
    rw (ne_eqb x (suc n) other) (omega (arith, tally-past x n (omega arith)))

tally-one : (x n : ℕ) → 0 < x → x ≤ n → tally (λ t. cond (eqb x t) 1 0) n ≡ 1
tally-one x zero positive within = absurd (omega arith)
tally-one x (suc n) positive within =
    elim (cases_eq x (suc n)) [
      | inl same ↦ rw (eq-eqb x (suc n) same) (omega (arith, tally-past x n (omega arith)))
      | inr other ↦ rw (ne_eqb x (suc n) other)
          (omega (arith, tally-one x n positive (omega arith)))
    ]

-- tokens from 1 to n are counted by counting each
tally-times : (xs : List ℕ) (n : ℕ) → ((t : ℕ) → 0 < times t xs → (0 < t) × (t ≤ n))
    → tally (λ t. times t xs) n ≡ length xs
tally-times [] n within = tally-none n
tally-times (x ∷ xs) n within =
    let at = within x (omega (arith, times-here x xs)) in
    omega (
      arith,
      tally-sum (λ t. cond (eqb x t) 1 0) (λ t. times t xs) n,
      tally-one x n at.0 at.1,
      tally-times xs n (λ t some. within t (omega arith)),
    )

module _ {T : Type 0} where
  counted-up_to : (slots : List (Option T)) (nexts : List ℕ) (first : ℕ) (free : List ℕ)
      → AreFree slots nexts first free → (n : ℕ) → n ≤ length slots
      → count_by is_some (take n slots) + tally (λ t. times t free) n ≡ n
  counted-up_to slots nexts first free are zero within = omega arith
  counted-up_to slots nexts first free are (suc n) within =
      let rest = counted-up_to slots nexts first free are n (omega arith) in
      let next : n + 1 ≡ suc n = omega arith in
      elim (cases_Bool (is_some (get_or slots n None))) [
        | inl some ↦
            let none : times (suc n) free ≡ 0 = not_free some in
            let more = subst (λ k. count_by is_some (take k slots) ≡ count_by is_some (take n slots) + 1)
            next (count_by_more_yes is_some slots n None (omega arith) some) in
            omega (arith, rest, none, more)
        | inr vacant ↦
            let once = are.once (suc n) in
            let here = are.all (suc n) (omega arith) within vacant in
            let same = subst (λ k. count_by is_some (take k slots) ≡ count_by is_some (take n slots))
            next (count_by_more_no is_some slots n None (omega arith) vacant) in
            omega (arith, rest, once, here, same)
      ]
    where
      not_free : is_some (get_or slots n None) ≡ true → times (suc n) free ≡ 0
      not_free some = zero_if_none (times (suc n) free)
          (λ there. let at = are.within (suc n) there in differ (sym some ∙ at.2))
        where
          zero_if_none : (k : ℕ) → (0 < k → ⊥) → k ≡ 0
          zero_if_none zero out = refl
          zero_if_none (suc k) out = absurd (out (omega arith))

          differ : true ≡ false → ⊥
          differ e = cc

  -- how many slots there are
  pub slots-counted : (slots : List (Option T)) (nexts : List ℕ) (first : ℕ) (free : List ℕ)
      → AreFree slots nexts first free
      → count_by is_some slots + length free ≡ length slots
  slots-counted slots nexts first free are =
      let all = counted-up_to slots nexts first free are (length slots) (omega arith) in
      let tokens = tally-times free (length slots)
      (λ t some. let at = are.within t some in (at.0, at.1)) in
      omega (arith, rw (take_all (length slots) slots (omega arith)) at all, tokens)
