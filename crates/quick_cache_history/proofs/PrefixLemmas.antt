-- Beginnings of lists.
use Rattle.std.proofs.Common.{◌≡◌, ◌≤◌, List, [], ◌∷◌, ◌++◌, length, refl, ap, sym, ◌∙◌, arith, append_assoc}
use mathlib.Core.List.{IsPrefix}

-- what goes on from a longer beginning goes on from a shorter one
pub prefix-trans : {A : Type 0} (xs ys zs : List A) → IsPrefix xs ys → IsPrefix ys zs
    → IsPrefix xs zs
prefix-trans xs ys zs p q =
    (p.0 ++ q.0, sym (append_assoc xs p.0 q.0) ∙ (ap (λ w. w ++ q.0) p.1 ∙ q.1))

-- a beginning as long as the whole is the whole
pub prefix-whole : {A : Type 0} (xs ys : List A) → IsPrefix xs ys → length ys ≤ length xs
    → xs ≡ ys
prefix-whole [] [] p le = refl
prefix-whole [] (y ∷ ys) p le = absurd (omega arith)
prefix-whole (x ∷ xs) [] p le = absurd (cc (p.1))
prefix-whole (x ∷ xs) (y ∷ ys) p le =
    let rest = prefix-whole xs ys (p.0, cc (p.1)) (omega arith) in cc (p.1, rest)
