-- Lists of which the first are taken, and clones of what is shown.
use Rattle.std.proofs.Common.{◌≡◌, ◌<◌, ◌+◌, ℕ, zero, suc, List, [], ◌∷◌, ◌++◌, length, take, slice_index_or, refl, ap, sym, subst, ◌∙◌}
use Rattle.std.specs.List.{AllZip, AppendsClones}
use Rattle.std.proofs.lemmas.List.{take_more, append_assoc}
use Rattle.std.proofs.lemmas.List.Elements.{AllZip-push}

-- a clone of the next one was added
pub AppendsClones-next : {X : Type 0} (clones : X → X → Type 0) (items : List X) (index : ℕ)
    (item clone : X) (old now new : List X) → index < length items
    → slice_index_or items index item ≡ item → new ≡ now ++ clone ∷ [] → clones item clone
    → AppendsClones clones old now (take index items)
    → AppendsClones clones old new (take (index + 1) items)
AppendsClones-next clones items index item clone old now new inside is grown one so_far = (
  so_far.0 ++ clone ∷ [],
  grown ∙ (ap (λ xs. xs ++ clone ∷ []) so_far.1 ∙ append_assoc old so_far.0 (clone ∷ [])),
  subst (λ xs. AllZip clones xs (so_far.0 ++ clone ∷ []))
      (sym (take_more items index item inside ∙ ap (λ x. take index items ++ x ∷ []) is))
      (AllZip-push clones (take index items) so_far.0 item clone so_far.2 one),
)

-- what is taken twice is what is taken once
take-again : {A : Type 0} (n : ℕ) (xs ys : List A) → take n (take n xs ++ ys) ≡ take n (xs ++ ys)
take-again zero xs ys = refl
take-again (suc n) [] ys = refl
take-again (suc n) (x ∷ xs) ys = ap (λ zs. x ∷ zs) (take-again n xs ys)

-- what was added in two steps is what is added in one
pub adds-more : {A : Type 0} (n : ℕ) (old more rest mid new : List A) → mid ≡ take n (old ++ more)
    → new ≡ take n (mid ++ rest) → new ≡ take n (old ++ (more ++ rest))
adds-more n old more rest mid new first second =
    second ∙ (ap (λ xs. take n (xs ++ rest)) first ∙ (take-again n (old ++ more) rest
    ∙ ap (take n) (append_assoc old more rest)))
