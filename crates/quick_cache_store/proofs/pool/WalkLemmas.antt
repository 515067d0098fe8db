-- The slots that a walk has yet to come to.
use Rattle.std.proofs.Common.{◌≡◌, ℕ, zero, suc, ◌+◌, ◌-◌, ◌≤◌, min, List, [], ◌∷◌, length, take, drop, refl, ap, subst, ◌∙◌, inl, inr}
use Rattle.std.proofs.Common.{arith, length-drop}
use Rattle.std.proofs.lemmas.Bool.{cases_lt}
use Rattle.std.proofs.lemmas.List.{take_rest, drop_all}
use Rattle.quick_cache_store.specs.Pool.{entries_past}
use Rattle.quick_cache_store.specs.Stack.{slots_past, AreNoted, AreLeft}
use Rattle.quick_cache_store.proofs.pool.StackLemmas.{length-slots_past}

module _ {T : Type 0} where
  slots_past-drop : (free : List ℕ) (passed n at : ℕ) (xs : List T) → passed + n ≡ at
      → slots_past free at (drop n xs) ≡ drop n (slots_past free passed xs)
  slots_past-drop free passed zero at xs sum =
      let e : at ≡ passed = omega arith in rw e refl
  slots_past-drop free passed (suc n) at [] sum = refl
  slots_past-drop free passed (suc n) at (x ∷ xs) sum =
      slots_past-drop free (passed + 1) n at xs (omega arith)

  -- the entries past a place beyond the end are none
  pub entries_rest : (free : List ℕ) (xs : List T) (passed at : ℕ) → at ≡ min passed (length xs)
      → entries_past at (slots_past free at (take (length xs - at) (drop at xs)))
      ≡ entries_past passed (drop passed (slots_past free 0 xs))
  entries_rest free xs passed at is_min =
      ap (λ (ys : List T). entries_past at (slots_past free at ys)) (take_rest xs at)
      ∙ ap (entries_past at) (slots_past-drop free 0 at at xs (omega arith)) ∙ by_order
    where
      by_order : entries_past at (drop at (slots_past free 0 xs))
          ≡ entries_past passed (drop passed (slots_past free 0 xs))
      by_order =
          elim (cases_lt passed (length xs)) [
            | inl below ↦ let same : at ≡ passed = omega arith in rw same refl
            | inr above ↦
                let long = length-slots_past free 0 xs in
                rw (
                  drop_all at (slots_past free 0 xs) (omega arith),
                  drop_all passed (slots_past free 0 xs) (omega arith),
                ) refl
          ]

module _ {T : Type 0} (is_blank : T → Type 0) (note_of : T → ℕ) where
  AreNoted-drop : (free : List ℕ) (passed n at : ℕ) (xs : List T) → passed + n ≡ at
      → AreNoted is_blank note_of free passed xs
      → AreNoted is_blank note_of free at (drop n xs)
  AreNoted-drop free passed zero at xs sum noted =
      let e : passed ≡ at = omega arith in
      subst (λ (p : ℕ). AreNoted is_blank note_of free p xs) e noted
  AreNoted-drop free passed (suc n) at [] sum noted = tt
  AreNoted-drop free passed (suc n) at (x ∷ xs) sum noted =
      AreNoted-drop free (passed + 1) n at xs (omega arith) noted.1

  -- a walk begins behind so many slots
  pub AreLeft-rest : (free : List ℕ) (xs : List T) (at : ℕ) → at ≤ length xs
      → length xs ≤ 4294967294 → AreNoted is_blank note_of free 0 xs
      → AreLeft is_blank note_of free at (take (length xs - at) (drop at xs))
  AreLeft-rest free xs at within few noted =
      rw (take_rest xs at)
      (omega (arith, length-drop at xs), AreNoted-drop free 0 at at xs (omega arith) noted)
