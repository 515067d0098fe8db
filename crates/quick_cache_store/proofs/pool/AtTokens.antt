-- What stands at a token of a list, and what a write or a push makes of it.
use Rattle.std.proofs.Common.{◌≡◌, ◌≢◌, ℕ, zero, suc, ◌+◌, ◌<◌, ◌≤◌, List, [], ◌∷◌, ◌++◌, length, get_or, set, refl, sym, ap, subst, ◌∙◌}
use Rattle.std.proofs.Common.{inl, inr, arith, length-set}
use Rattle.std.proofs.lemmas.Bool.{cases_lt}
use Rattle.std.proofs.lemmas.List.{get_or-set_same, get_or-set_other, get_or_past, get_or_push, get_or_append_left, length_push}
use Rattle.quick_cache_store.specs.Pool.{at_token, with_token}

pub with_token-suc : {X : Type 0} (xs : List X) (t i : ℕ) (x : X) → i + 1 ≡ t
    → with_token xs t x ≡ set xs i x
with_token-suc xs t i x at = let e : suc i ≡ t =
    omega arith in subst (λ (u : ℕ). with_token xs u x ≡ set xs i x) e refl

pub at_token-suc : {X : Type 0} (xs : List X) (t i : ℕ) (d : X) → i + 1 ≡ t
    → at_token xs t d ≡ get_or xs i d
at_token-suc xs t i d at = let e : suc i ≡ t =
    omega arith in subst (λ (u : ℕ). at_token xs u d ≡ get_or xs i d) e refl

pub length-with_token : {X : Type 0} (xs : List X) (t : ℕ) (x : X)
    → length (with_token xs t x) ≡ length xs
length-with_token xs zero x = refl
length-with_token xs (suc i) x = length-set xs i x

pub at_token-with_same : {X : Type 0} (xs : List X) (t : ℕ) (x d : X) → 0 < t → t ≤ length xs
    → at_token (with_token xs t x) t d ≡ x
at_token-with_same xs zero x d positive within = absurd (omega arith)
at_token-with_same xs (suc i) x d positive within = get_or-set_same xs i x d (omega arith)

pub at_token-with_other : {X : Type 0} (xs : List X) (t u : ℕ) (x d : X) → u ≢ t
    → at_token (with_token xs t x) u d ≡ at_token xs u d
at_token-with_other xs zero u x d differs = refl
at_token-with_other xs (suc i) zero x d differs = refl
at_token-with_other xs (suc i) (suc j) x d differs =
    get_or-set_other xs i j x d (λ same. differs (ap suc same))

pub at_token-past : {X : Type 0} (xs : List X) (t : ℕ) (d : X) → length xs < t → at_token xs t d ≡ d
at_token-past xs zero d past = refl
at_token-past xs (suc i) d past = get_or_past xs i d (omega arith)

pub at_token-push_same : {X : Type 0} (xs : List X) (x d : X)
    → at_token (xs ++ x ∷ []) (length xs + 1) d ≡ x
at_token-push_same xs x d = at_token-suc (xs ++ x ∷ []) (length xs + 1) (length xs) d refl
    ∙ get_or_push xs x d (length xs) refl

pub at_token-push_other : {X : Type 0} (xs : List X) (t : ℕ) (x d : X) → t ≢ length xs + 1
    → at_token (xs ++ x ∷ []) t d ≡ at_token xs t d
at_token-push_other xs zero x d differs = refl
at_token-push_other xs (suc i) x d differs = by_order i (λ same. differs (omega arith))
  where
    by_order : (i : ℕ) → i ≢ length xs → get_or (xs ++ x ∷ []) i d ≡ get_or xs i d
    by_order i differs =
        elim (cases_lt i (length xs)) [
          | inl below ↦ get_or_append_left xs (x ∷ []) d i below
          | inr above ↦ get_or_past (xs ++ x ∷ []) i d (omega (arith, length_push xs x))
              ∙ sym (get_or_past xs i d above)
        ]
