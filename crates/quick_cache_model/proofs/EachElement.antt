-- Facts of each element of a list, by recursion on the list.
use Rattle.std.proofs.Common.{Bool, true, false, cond, List, [], ◌∷◌, ◌++◌, IsPermutation}
use Rattle.std.specs.List.{AllByRecursion, filter}
use Rattle.std.proofs.lemmas.List.Elements.{All-from_recursion, recursion_from_All}
use Rattle.std.proofs.lemmas.List.Sorted.{All-permutation}

module _ {X : Type 0} (P : X → Type 0) where
  -- what holds in two lists holds in both, one behind the other
  pub all-append : (xs ys : List X) → AllByRecursion P xs → AllByRecursion P ys
      → AllByRecursion P (xs ++ ys)
  all-append [] ys a b = b
  all-append (x ∷ xs) ys a b = (a.0, all-append xs ys a.1 b)

  -- what holds in a list holds in its front
  pub all-left : (xs ys : List X) → AllByRecursion P (xs ++ ys) → AllByRecursion P xs
  all-left [] ys a = tt
  all-left (x ∷ xs) ys a = (a.0, all-left xs ys a.1)

  -- and in what stands behind that
  pub all-right : (xs ys : List X) → AllByRecursion P (xs ++ ys) → AllByRecursion P ys
  all-right [] ys a = a
  all-right (x ∷ xs) ys a = all-right xs ys a.1

  -- it holds of an element between two lists, and of the lists joined without it
  pub all-middle : (xs : List X) (x : X) (ys : List X) → AllByRecursion P (xs ++ x ∷ ys) → P x
  all-middle xs x ys a = (all-right xs (x ∷ ys) a).0

  -- what holds in a list holds in the list without one of its elements
  pub all-without : (xs : List X) (x : X) (ys : List X) → AllByRecursion P (xs ++ x ∷ ys)
      → AllByRecursion P (xs ++ ys)
  all-without xs x ys a = all-append xs ys (all-left xs (x ∷ ys) a) (all-right xs (x ∷ ys) a).1

  -- and with another in its place
  pub all-instead : (xs : List X) (x y : X) (ys : List X) → P y → AllByRecursion P (xs ++ x ∷ ys)
      → AllByRecursion P (xs ++ y ∷ ys)
  all-instead xs x y ys h a = all-append xs (y ∷ ys) (all-left xs (x ∷ ys) a)
      (h, (all-right xs (x ∷ ys) a).1)

  -- a list without an element, begun behind it
  pub all-restarted : (xs : List X) (x : X) (ys : List X) → AllByRecursion P (xs ++ x ∷ ys)
      → AllByRecursion P (ys ++ xs)
  all-restarted xs x ys a = all-append ys xs (all-right xs (x ∷ ys) a).1 (all-left xs (x ∷ ys) a)

  -- one more at the end
  pub all-push : (xs : List X) (x : X) → AllByRecursion P xs → P x → AllByRecursion P (xs ++ x ∷ [])
  all-push xs x a h = all-append xs (x ∷ []) a (h, tt)

  -- what follows from a fact holds where the fact does
  pub all-weaker : (Q : X → Type 0) → ((x : X) → P x → Q x) → (xs : List X) → AllByRecursion P xs
      → AllByRecursion Q xs
  all-weaker Q h [] a = tt
  all-weaker Q h (x ∷ xs) a = (h x a.0, all-weaker Q h xs a.1)

  -- what a filter keeps
  pub all-filter : (test : X → Bool) (xs : List X) → AllByRecursion P xs
      → AllByRecursion P (filter test xs)
  all-filter test [] a = tt
  all-filter test (x ∷ xs) a = go (test x) (all-filter test xs a.1)
    where
      go : (b : Bool) → AllByRecursion P (filter test xs)
          → AllByRecursion P (cond b (x ∷ filter test xs) (filter test xs))
      go true rest = (a.0, rest)
      go false rest = rest

  -- what holds in a list holds in another order of it
  pub all-permutation : (xs ys : List X) → IsPermutation xs ys → AllByRecursion P xs
      → AllByRecursion P ys
  all-permutation xs ys same all = recursion_from_All P ys
      (All-permutation P xs ys same (All-from_recursion P xs all))
