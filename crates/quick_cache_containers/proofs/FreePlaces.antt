-- A free place, which there is where some are free.
use Rattle.std.proofs.Common.{◌≡◌, ℕ, suc, ◌<◌, Bool, true, false, eqb, List, [], ◌∷◌, length, get_or, count_by, ap, inl, inr, arith}
use Rattle.std.proofs.lemmas.Bool.{eqb-true, eq-eqb}
use Rattle.std.proofs.lemmas.Bool.Decides.{leb_tells}
use Rattle.std.proofs.lemmas.List.Sums.{get_or-le-sum_by, sum_by-cons}
use Rattle.quick_cache_containers.specs.Places.{Place}
use Rattle.quick_cache_containers.specs.TableGroups.{is_free, empty_place, IsHoused}
use Rattle.quick_cache_index.proofs.CountedTokens.{bit, bool_tells}

-- where some pass a test, one can be named
pub position_of_some : {X : Type 0} (p : X → Bool) (xs : List X) (d : X) → 0 < count_by p xs
    → (i : ℕ) × (i < length xs) × (p (get_or xs i d) ≡ true)
position_of_some p [] d some = absurd (omega (arith, some))
position_of_some p (x ∷ xs) d some =
    elim (bool_tells (p x)) [
      | inl holds ↦ (0, omega arith, holds)
      | inr fails ↦
          let later =
          position_of_some p xs d
          (omega (arith, some, sum_by-cons (λ y. bit (p y)) x xs, ap bit fails)) in
          (suc later.0, omega (arith, later.1), later.2)
    ]

-- a place without a pair has no tag
pub untagged_some : (tags : List ℕ) (places : List Place) (reaches : List ℕ) (mask : ℕ)
    → IsHoused tags places reaches mask → 0 < count_by is_free places
    → 0 < count_by (λ t. eqb t 0) tags
untagged_some tags places reaches mask housed room =
    let free = position_of_some is_free places empty_place room in
    let p = free.0 in
    elim (leb_tells 1 (get_or tags p 0)) [
      | inl t ↦
          let here = housed.housed p free.1 t.1 in
          absurd (omega (arith, here.taken, eqb-true _ 0 free.2))
      | inr t ↦
          let bare = ap bit (eq-eqb (get_or tags p 0) 0 (omega (arith, t.1))) in
          omega (
            arith,
            bare,
            get_or-le-sum_by (λ x. bit (eqb x 0)) tags p 0
                (omega (arith, housed.sized.tagged, free.1)),
          )
    ]

-- a place with a token has a pair
pub taken_is : (place : Place) → 0 < place.token → is_free place ≡ false
taken_is place taken =
    elim (bool_tells (is_free place)) [
      | inl free ↦ absurd (omega (arith, taken, eqb-true place.token 0 free))
      | inr fails ↦ fails
    ]
