-- Laws of looking up: a key stands at one place, and a look at it and a look-up show the same.
use Rattle.std.proofs.Common.{◌≡◌, ◌≤◌, Bool, true, List, [], ◌∷◌, ◌++◌, Option, Some, refl, sym, ap, subst, ◌∙◌, arith}
use Rattle.quick_cache_model.specs.CacheState.{CacheState, Item, Place, InHot, InCold, InStill, items_at, keys_by}
use Rattle.quick_cache_model.specs.Finding.{IsItemAt, HasNoItem}
use Rattle.quick_cache_model.specs.Lookups.{Sees, LooksUp}
use Rattle.quick_cache_model.proofs.KeyCounts.{keys, keys-cons, keys-none, keys-passes}

module _ {K V : Type 0} (test : K → Bool) where
  -- two items of one list whose keys pass are one, if no two keys do
  pub same_item : (before : List (Item K V)) (v : Item K V) (after front : List (Item K V))
      (w : Item K V) (back : List (Item K V))
      → before ++ v ∷ after ≡ front ++ w ∷ back → test v.key ≡ true → test w.key ≡ true
      → keys test (before ++ v ∷ after) ≤ 1 → v ≡ w
  same_item [] v after [] w back same p q single = cc
  same_item [] v after (y ∷ front) w back same p q single =
      let tail : after ≡ front ++ w ∷ back = cc in
      absurd (omega (
        arith,
        single,
        keys-passes test [] v after p,
        keys-passes test front w back q,
        ap (keys test) tail,
      ))
  same_item (x ∷ before) v after [] w back same p q single =
      let head : x ≡ w = cc in
      absurd (omega (
        arith,
        single,
        keys-passes test [] x (before ++ v ∷ after)
            (ap (λ i. test i.key) head ∙ q),
        keys-passes test before v after p,
      ))
  same_item (x ∷ before) v after (y ∷ front) w back same p q single =
      let tail : before ++ v ∷ after ≡ front ++ w ∷ back = cc in
      same_item before v after front w back tail p q
      (omega (arith, single, keys-cons test x (before ++ v ∷ after)))

  module _ (state : CacheState K V) (single : keys_by test state ≤ 1) where
    -- an item whose key passes is counted at its place
    pub at_least : (place : Place) (before : List (Item K V)) (v : Item K V)
        (after : List (Item K V))
        → IsItemAt test state place before v after → 1 ≤ keys test (items_at place state)
    at_least place before v after there =
        rw there.split (omega (arith, keys-passes test before v after there.passes))

    -- at each place at most one item is counted
    pub at_most : (place : Place) → keys test (items_at place state) ≤ 1
    at_most InHot = omega (arith, single)
    at_most InCold = omega (arith, single)
    at_most InStill = omega (arith, single)

    -- two items of a state whose keys pass are one
    pub same_everywhere : (place other : Place) (before : List (Item K V)) (v : Item K V)
        (after front : List (Item K V)) (w : Item K V) (back : List (Item K V))
        → IsItemAt test state place before v after → IsItemAt test state other front w back → v ≡ w
    same_everywhere InHot InHot before v after front w back a b =
        same_item before v after front w back (sym a.split ∙ b.split) a.passes b.passes
        (subst (λ xs. keys test xs ≤ 1) a.split (at_most InHot))
    same_everywhere InCold InCold before v after front w back a b =
        same_item before v after front w back (sym a.split ∙ b.split) a.passes b.passes
        (subst (λ xs. keys test xs ≤ 1) a.split (at_most InCold))
    same_everywhere InStill InStill before v after front w back a b =
        same_item before v after front w back (sym a.split ∙ b.split) a.passes b.passes
        (subst (λ xs. keys test xs ≤ 1) a.split (at_most InStill))
    same_everywhere InHot InCold before v after front w back a b =
        absurd (omega (
          arith,
          single,
          at_least InHot before v after a,
          at_least InCold front w back
              b,
        ))
    same_everywhere InHot InStill before v after front w back a b =
        absurd (omega (
          arith,
          single,
          at_least InHot before v after a,
          at_least InStill front w back
              b,
        ))
    same_everywhere InCold InHot before v after front w back a b =
        absurd (omega (
          arith,
          single,
          at_least InCold before v after a,
          at_least InHot front w back
              b,
        ))
    same_everywhere InCold InStill before v after front w back a b =
        absurd (omega (
          arith,
          single,
          at_least InCold before v after a,
          at_least InStill front w
              back b,
        ))
    same_everywhere InStill InHot before v after front w back a b =
        absurd (omega (
          arith,
          single,
          at_least InStill before v after a,
          at_least InHot front w back
              b,
        ))
    same_everywhere InStill InCold before v after front w back a b =
        absurd (omega (
          arith,
          single,
          at_least InStill before v after a,
          at_least InCold front w
              back b,
        ))

    -- an item is there or is not
    pub not_both : (place : Place) (before : List (Item K V)) (v : Item K V)
        (after : List (Item K V))
        → IsItemAt test state place before v after → HasNoItem test state → ⊥
    not_both InHot before v after there none =
        omega (arith, at_least InHot before v after there, keys-none test state.hot none.hot)
    not_both InCold before v after there none =
        omega (arith, at_least InCold before v after there, keys-none test state.cold none.cold)
    not_both InStill before v after there none =
        omega (arith, at_least InStill before v after there, keys-none test state.still none.still)

    -- a look at a key and a look-up show the same
    pub Sees-LooksUp : {X : Type 0} (of : Item K V → X) {seen shown : Option X}
        {new : CacheState K V}
        → Sees test state of seen → LooksUp test state of shown new → seen ≡ shown
    Sees-LooksUp of (Sees.is_there place before v after a) (LooksUp.hit other front w back b) =
        ap (λ (x : Item K V). Some (of x))
        (same_everywhere place other before v after front w back a b)
    Sees-LooksUp of (Sees.is_there place before v after a) (LooksUp.miss none) =
        absurd (not_both place before v after a none)
    Sees-LooksUp of (Sees.is_absent none) (LooksUp.hit other front w back b) =
        absurd (not_both other front w back b none)
    Sees-LooksUp of (Sees.is_absent none) (LooksUp.miss also) = refl

    -- two looks show the same
    pub Sees-Sees : {X : Type 0} (of : Item K V → X) {first second : Option X}
        → Sees test state of first → Sees test state of second → first ≡ second
    Sees-Sees of (Sees.is_there place before v after a) (Sees.is_there other front w back b) =
        ap (λ (x : Item K V). Some (of x))
        (same_everywhere place other before v after front w back a b)
    Sees-Sees of (Sees.is_there place before v after a) (Sees.is_absent none) =
        absurd (not_both place before v after a none)
    Sees-Sees of (Sees.is_absent none) (Sees.is_there other front w back b) =
        absurd (not_both other front w back b none)
    Sees-Sees of (Sees.is_absent none) (Sees.is_absent also) = refl
