-- What the calls of a slab do, told token by token.
use Rattle.std.proofs.Common.{◌≡◌, ℕ, zero, suc, ◌+◌, ◌<◌, ◌≤◌, List, [], ◌∷◌, ◌++◌, length, Option, Some, None, IsSome, refl, ap}
use Rattle.std.proofs.Common.{◌∙◌, inl, inr, arith}
use Rattle.std.proofs.lemmas.Bool.{cases_eq, cases_lt}
use Rattle.std.proofs.lemmas.List.{length_push}
use Rattle.quick_cache_model.specs.Sequences.{times}
use Rattle.quick_cache_store.specs.Pool.{Pool, at_token, with_token, item_at, next_token, placed, removed, IsParted}
use Rattle.quick_cache_store.specs.Frames.{IsPlaced, IsRemoved}
use Rattle.quick_cache_store.proofs.pool.TokenCounts.{times-here, times-other}
use Rattle.quick_cache_store.proofs.pool.AtTokens.{length-with_token, at_token-with_same, at_token-with_other, at_token-past}
use Rattle.quick_cache_store.proofs.pool.AtTokens.{at_token-push_same, at_token-push_other}

module _ {S : Type 0} where
  pub occupied_within : (slots : List (Option S)) (t : ℕ) (x : S) → at_token slots t None ≡ Some x
      → (0 < t) × (t ≤ length slots)
  occupied_within slots zero x is = absurd (cc)
  occupied_within slots (suc i) x is =
      elim (cases_lt (length slots) (suc i)) [
        | inl past ↦ let e = at_token-past slots (suc i) None past in absurd (cc)
        | inr within ↦ (omega arith, within)
      ]

  pub occupied-some : (o : Option S) → IsSome o → (x : S) × (o ≡ Some x)
  occupied-some None there = absurd (cc)
  occupied-some (Some x) there = (x, refl)

  pub IsPlaced-from : (old new : Pool S) (x : S) → IsParted old
      → new ≡ record (placed old.free old x) { room = new.room }
      → IsPlaced old new (next_token old) x
  IsPlaced-from old new x parted done = by_free old.free refl
    where
      by_free : (free : List ℕ) → old.free ≡ free → IsPlaced old new (next_token old) x
      by_free [] none =
          let t : ℕ = length old.slots + 1 in
          let at : next_token old ≡ t = rw none refl in
          let slots : new.slots ≡ old.slots ++ Some x ∷ [] = ap (λ (s : Pool S). s.slots) done
          ∙ rw none refl in
          let free : new.free ≡ [] = ap (λ (s : Pool S). s.free) done ∙ rw none refl in
          rw at (record {
            vacant = at_token-past old.slots t None (omega arith);
            here = ap (λ ss. at_token ss t None) slots ∙ at_token-push_same old.slots (Some x) None;
            others = λ u differs. ap (λ ss. at_token ss u None) slots
                ∙ at_token-push_other old.slots u (Some x) None differs;
            grows = inr (
              ap length slots ∙ omega
                  (arith, length_push old.slots (Some x)),
              omega arith,
              none,
              free,
            );
          })
      by_free (t ∷ rest) some =
          let at : next_token old ≡ t = rw some refl in
          let slots : new.slots ≡ with_token old.slots t (Some x) =
          ap (λ (s : Pool S). s.slots) done ∙ rw some refl in
          let free : new.free ≡ rest = ap (λ (s : Pool S). s.free) done ∙ rw some refl in
          let first = parted.free_within t (rw some (omega (arith, times-here t rest))) in
          let fewer : length new.free + 1 ≡ length old.free = rw (free, some) (omega arith) in
          rw at (record {
            vacant = first.2;
            here = ap (λ ss. at_token ss t None) slots
                ∙ at_token-with_same old.slots t (Some x) None first.0 first.1;
            others = λ u differs. ap (λ ss. at_token ss u None) slots
                ∙ at_token-with_other old.slots t u (Some x) None differs;
            grows = inl (
              ap length slots ∙ length-with_token old.slots t
                  (Some x),
              first.0,
              first.1,
              fewer,
            );
          })

  pub IsRemoved-from : (old new : Pool S) (t : ℕ) (x : S) → item_at old t ≡ Some x
      → new ≡ removed old t → IsRemoved old new t
  IsRemoved-from old new t x is done =
      let within = occupied_within old.slots t x is in
      record {
        here = ap (λ (s : Pool S). item_at s t) done
            ∙ at_token-with_same old.slots t None None within.0 within.1;
        others = λ u differs. ap (λ (s : Pool S). item_at s u) done
            ∙ at_token-with_other old.slots t u None None differs;
        long = ap (λ (s : Pool S). length s.slots) done ∙ length-with_token old.slots t None;
        free = ap (λ (s : Pool S). s.free) done;
        room = ap (λ (s : Pool S). s.room) done;
      }

pub times-split : (t : ℕ) (xs : List ℕ) → 0 < times t xs → (pre : List ℕ) × (post : List ℕ)
    × (xs ≡ pre ++ t ∷ post)
times-split t [] some = absurd (omega (arith, some))
times-split t (x ∷ xs) some =
    elim (cases_eq x t) [
      | inl same ↦ ([], xs, ap (λ (u : ℕ). u ∷ xs) same)
      | inr differs ↦
          let rest = times-split t xs (omega (arith, times-other t x xs differs)) in
          (x ∷ rest.0, rest.1, ap (λ ys. x ∷ ys) rest.2)
    ]
