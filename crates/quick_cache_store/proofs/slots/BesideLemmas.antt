-- The two lists, read and written as one.
use Rattle.std.proofs.Common.{◌≡◌, ℕ, zero, suc, ◌<◌, List, [], ◌∷◌, ◌++◌, length, set, get_or, refl, sym, ap, arith}
use Rattle.quick_cache_store.specs.declared.slots.aside.Aside.{Aside}
use Rattle.quick_cache_store.specs.declared.slots.beside.Beside.{Beside}
use Rattle.quick_cache_store.specs.Asides.{besides}

pub length-besides : (xs : List Aside) (ms : List ℕ) → length xs ≡ length ms
    → length (besides xs ms) ≡ length xs
length-besides [] ms same = refl
length-besides (x ∷ xs) [] same = absurd (omega arith)
length-besides (x ∷ xs) (m ∷ ms) same = ap suc (length-besides xs ms (omega arith))

pub besides-push : (xs : List Aside) (ms : List ℕ) (x : Aside) (m : ℕ) → length xs ≡ length ms
    → besides (xs ++ x ∷ []) (ms ++ m ∷ [])
    ≡ besides xs ms ++ record { aside = x; mark = m } ∷ []
besides-push [] [] x m same = refl
besides-push [] (n ∷ ms) x m same = absurd (omega arith)
besides-push (y ∷ xs) [] x m same = absurd (omega arith)
besides-push (y ∷ xs) (n ∷ ms) x m same =
    ap (λ (bs : List Beside). record { aside = y; mark = n } ∷ bs)
    (besides-push xs ms x m (omega arith))

pub besides-set : (xs : List Aside) (ms : List ℕ) (i : ℕ) (x : Aside) (m : ℕ)
    → besides (set xs i x) (set ms i m) ≡ set (besides xs ms) i (record { aside = x; mark = m })
besides-set [] ms i x m = refl
besides-set (y ∷ xs) [] zero x m = refl
besides-set (y ∷ xs) [] (suc i) x m = refl
besides-set (y ∷ xs) (n ∷ ms) zero x m = refl
besides-set (y ∷ xs) (n ∷ ms) (suc i) x m =
    ap (λ (bs : List Beside). record { aside = y; mark = n } ∷ bs) (besides-set xs ms i x m)

-- a place of the one list is a place of both
pub within-besides : (xs : List Aside) (ms : List ℕ) (i : ℕ) → i < length (besides xs ms)
    → (i < length xs) × (i < length ms)
within-besides [] ms i within = absurd (omega arith)
within-besides (x ∷ xs) [] i within = absurd (omega arith)
within-besides (x ∷ xs) (m ∷ ms) zero within = (omega arith, omega arith)
within-besides (x ∷ xs) (m ∷ ms) (suc i) within =
    let rest = within-besides xs ms i (omega arith) in
    let first = rest.0 in
    let second = rest.1 in
    (omega arith, omega arith)

pub get_or-besides : (xs : List Aside) (ms : List ℕ) (i : ℕ) (b : Beside)
    → i < length (besides xs ms) → get_or (besides xs ms) i b
    ≡ record { aside = get_or xs i b.aside; mark = get_or ms i b.mark }
get_or-besides [] ms i b within = absurd (omega arith)
get_or-besides (y ∷ xs) [] i b within = absurd (omega arith)
get_or-besides (y ∷ xs) (n ∷ ms) zero b within = refl
get_or-besides (y ∷ xs) (n ∷ ms) (suc i) b within = get_or-besides xs ms i b (omega arith)

-- a mark alone
pub besides-mark : (xs : List Aside) (ms : List ℕ) (i m : ℕ) (b : Beside) → length xs ≡ length ms
    → b ≡ get_or (besides xs ms) i b → besides xs (set ms i m)
    ≡ set (besides xs ms) i (record b { mark = m })
besides-mark [] ms i m b same is = refl
besides-mark (x ∷ xs) [] i m b same is = absurd (omega arith)
besides-mark (x ∷ xs) (n ∷ ms) zero m b same is =
    ap (λ (c : Beside). record { aside = c.aside; mark = m } ∷ besides xs ms) (sym is)
besides-mark (x ∷ xs) (n ∷ ms) (suc i) m b same is =
    ap (λ (bs : List Beside). record { aside = x; mark = n } ∷ bs)
    (besides-mark xs ms i m b (omega arith) is)
