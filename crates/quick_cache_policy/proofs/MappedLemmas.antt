-- Facts of each element of a list and of their images, and where the list of images is split.
use Rattle.std.proofs.Common.{◌≡◌, List, [], ◌∷◌, ◌++◌, map, refl, ap}
use Rattle.std.specs.List.{AllByRecursion}

module _ {X : Type 0} (P Q : X → Type 0) (f : X → X) where
  -- from the elements to their images
  pub each-mapped : ((x : X) → P x → Q (f x)) → (xs : List X) → AllByRecursion P xs
      → AllByRecursion Q (map f xs)
  each-mapped h [] a = tt
  each-mapped h (x ∷ xs) a = (h x a.0, each-mapped h xs a.1)

  -- and back
  pub each-unmapped : ((x : X) → P (f x) → Q x) → (xs : List X) → AllByRecursion P (map f xs)
      → AllByRecursion Q xs
  each-unmapped h [] a = tt
  each-unmapped h (x ∷ xs) a = (h x a.0, each-unmapped h xs a.1)

module _ {X : Type 0} (f : X → X) where
  -- a list split as its images are
  pub record Unmapped (xs before : List X) (v : X) (after : List X) : Type 0 where
    pub before_of : List X
    pub v_of : X
    pub after_of : List X
    pub split : xs ≡ before_of ++ v_of ∷ after_of
    pub front : before ≡ map f before_of
    pub middle : v ≡ f v_of
    pub back : after ≡ map f after_of

  -- where the images are split, the elements are
  pub map-split : (xs before : List X) (v : X) (after : List X) → map f xs ≡ before ++ v ∷ after
      → Unmapped xs before v after
  map-split [] [] v after e = absurd (cc)
  map-split [] (b ∷ bs) v after e = absurd (cc)
  map-split (x ∷ xs) [] v after e = record {
    before_of = [];
    v_of = x;
    after_of = xs;
    split = refl;
    front = refl;
    middle = cc;
    back = cc;
  }
  map-split (x ∷ xs) (b ∷ bs) v after e =
      let tails : map f xs ≡ bs ++ v ∷ after = cc in
      let r = map-split xs bs v after tails in
      let heads : b ≡ f x = cc in
      record {
        before_of = x ∷ r.before_of;
        v_of = r.v_of;
        after_of = r.after_of;
        split = ap (λ l. x ∷ l) {y = r.before_of ++ r.v_of ∷ r.after_of} r.split;
        front = cc;
        middle = r.middle;
        back = r.back;
      }
