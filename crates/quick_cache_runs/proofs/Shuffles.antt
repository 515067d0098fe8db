-- Orders of what a list is mapped to, and of the list.
use Rattle.std.proofs.Common.{◌≡◌, ℕ, List, [], ◌∷◌, length, map, IsPermutation, refl, sym, ap, ◌∙◌, arith, set, get_or}
use Rattle.std.specs.List.{swap}
use Rattle.std.proofs.lemmas.List.{length-map, map-set}
use Rattle.std.proofs.Math.ListN.{get_or-map}
use Rattle.std.proofs.lemmas.List.Sorted.{IsPermutation-refl, IsPermutation-trans, IsPermutation-swap, IsPermutation-keeps}

module _ {P X : Type 0} (f : P → X) where
  -- an exchange, before and after the map
  map-swap : (xs : List P) (i j : ℕ) → map f (swap xs i j) ≡ swap (map f xs) i j
  map-swap [] i j = refl
  map-swap (d ∷ ys) i j =
      map-set f (set (d ∷ ys) i (get_or (d ∷ ys) j d)) j (get_or (d ∷ ys) i d)
      ∙ (λ k. set ((map-set f (d ∷ ys) i (get_or (d ∷ ys) j d)
      ∙ ap (set (map f (d ∷ ys)) i) (sym (get_or-map f (d ∷ ys) j d))) k) j
      (sym (get_or-map f (d ∷ ys) i d) k))

  -- an order of what a list is mapped to is one of the list
  lifted : (ps : List P) (ys : List X) → IsPermutation (map f ps) ys
      → (qs : List P) × IsPermutation ps qs × (map f qs ≡ ys)
  lifted ps ys order =
      IsPermutation-keeps (map f ps) (λ l. (qs : List P) × IsPermutation ps qs × (map f qs ≡ l))
      (ps, IsPermutation-refl ps, refl)
      (λ l i j p q h.
      let long : length h.0 ≡ length l = sym (length-map h.0 f) ∙ ap length h.2 in (
        swap h.0 i j,
        IsPermutation-trans ps h.0 (swap h.0 i j) h.1
            (IsPermutation-swap h.0 (swap h.0 i j) i j (omega (arith, p, long))
            (omega (arith, q, long)) refl),
        map-swap h.0 i j ∙ ap (λ t. swap t i j) h.2,
      )) ys order

  -- an element that is mapped to the first
  pub record IsPicked (ps : List P) (y : X) (ys : List X) : Type 0 where
    pub one : P
    pub others : List P
    pub order : IsPermutation ps (one ∷ others)
    pub is : f one ≡ y
    pub rest : map f others ≡ ys

  pub picked : (ps : List P) (y : X) (ys : List X) → IsPermutation (map f ps) (y ∷ ys)
      → IsPicked ps y ys
  picked ps y ys order = let h = lifted ps (y ∷ ys) order in go h.0 h.1 h.2
    where
      go : (qs : List P) → IsPermutation ps qs → map f qs ≡ y ∷ ys → IsPicked ps y ys
      go [] shuffled e = absurd cc
      go (q ∷ qs) shuffled e =
          record { one = q; others = qs; order = shuffled; is = cc; rest = cc }
