-- Marks of a list of items: lowered, raised, and their sum.
use Rattle.std.proofs.Common.{◌≡◌, ℕ, ◌+◌, ◌-◌, ◌*◌, ◌<◌, ◌≤◌, Bool, true, false, List, [], ◌∷◌, ◌++◌, length, map, refl, sym, ap, ap₂}
use Rattle.std.proofs.Common.{subst, arith, inl, inr}
use Rattle.std.proofs.lemmas.Bool.{cases_lt}
use Rattle.std.proofs.lemmas.List.Sums.{sum_by-cons}
use Rattle.quick_cache_model.specs.CacheState.{Item}
use Rattle.quick_cache_model.specs.Eviction.{lowered}
use Rattle.quick_cache_model.specs.Touches.{RaisesMarks}
use Rattle.quick_cache_model.proofs.TouchLaws.{with_touches-mark, RaisesMarks-same}
use Rattle.quick_cache_policy.specs.Rounds.{MayTake, MayRaise, AreUnmarked, HaveAtMost, AfterTouches, EndsSomeUnpinned, marks_of}
use Rattle.quick_cache_policy.specs.Rounds.{advance_measure}
use Rattle.quick_cache_policy.proofs.MappedLemmas.{each-mapped}

module _ {K V : Type 0} where
  -- lowered by 0, the items are the same
  pub lowered-none : (items : List (Item K V)) → map (lowered 0) items ≡ items
  lowered-none [] = refl
  lowered-none (x ∷ xs) =
      let e : x.mark - 0 ≡ x.mark = omega arith in
      rw (e, lowered-none xs)

  -- lowered once more
  pub lowered-twice : (n : ℕ) (items : List (Item K V))
      → map (lowered 1) (map (lowered n) items) ≡ map (lowered (n + 1)) items
  lowered-twice n [] = refl
  lowered-twice n (x ∷ xs) =
      let e : (x.mark - n) - 1 ≡ x.mark - (n + 1) = omega arith in
      rw (e, lowered-twice n xs)

  -- where each item has at most so many marks, none is left when they are lowered by so many
  pub lowered-all : (cut : ℕ) (items : List (Item K V)) → HaveAtMost cut items
      → AreUnmarked (map (lowered cut) items)
  lowered-all cut = each-mapped (λ item. item.mark ≤ cut) (λ item. item.mark ≡ 0) (lowered cut)
      (λ item h. let e : item.mark - cut ≡ 0 = omega (arith, h) in e)

  -- the first item adds its marks
  pub marks_of-cons : (x : Item K V) (xs : List (Item K V))
      → marks_of (x ∷ xs) ≡ x.mark + marks_of xs
  marks_of-cons x xs = sum_by-cons (λ (item : Item K V). item.mark) x xs

  -- they do not grow when each is lowered
  pub marks_of-lowered : (items : List (Item K V))
      → marks_of (map (lowered 1) items) ≤ marks_of items
  marks_of-lowered [] = omega arith
  marks_of-lowered (x ∷ xs) =
      let new = marks_of-cons (lowered 1 x) (map (lowered 1) xs) in
      omega (arith, new, marks_of-cons x xs, marks_of-lowered xs)

  -- they fall where one of them was above 0
  pub marks_of-falls : (items : List (Item K V)) → (AreUnmarked items → ⊥)
      → marks_of (map (lowered 1) items) < marks_of items
  marks_of-falls [] some = absurd (some tt)
  marks_of-falls (x ∷ xs) some =
      let new = marks_of-cons (lowered 1 x) (map (lowered 1) xs) in
      let old = marks_of-cons x xs in
      elim (cases_lt 0 x.mark) [
        | inl h ↦ omega (arith, new, old, marks_of-lowered xs)
        | inr h ↦ omega (arith, new, old, marks_of-falls xs (λ zeros. some (omega arith, zeros)))
      ]

  -- they are within the greatest mark of each
  pub marks_of-within : (cut : ℕ) (items : List (Item K V)) → HaveAtMost cut items
      → marks_of items ≤ cut * length items
  marks_of-within cut [] marks = omega arith
  marks_of-within cut (x ∷ xs) marks =
      omega (arith, marks_of-cons x xs, marks_of-within cut xs marks.1, marks.0)

module _ {K V : Type 0} (cut : ℕ) (may_count : ℕ → Type 0) where
  -- marks that were raised in two lists, one behind the other
  pub RaisesMarks-append : (a b c d : List (Item K V)) → RaisesMarks cut may_count a b
      → RaisesMarks cut may_count c d → RaisesMarks cut may_count (a ++ c) (b ++ d)
  RaisesMarks-append [] [] c d front back = back
  RaisesMarks-append [] (y ∷ ys) c d front back = absurd front
  RaisesMarks-append (x ∷ xs) [] c d front back = absurd front
  RaisesMarks-append (x ∷ xs) (y ∷ ys) c d front back =
      (front.0, RaisesMarks-append xs ys c d front.1 back)

  -- the list is as long as before
  pub RaisesMarks-length : (old new : List (Item K V)) → RaisesMarks cut may_count old new
      → length new ≡ length old
  RaisesMarks-length [] [] raised = refl
  RaisesMarks-length [] (y ∷ ys) raised = absurd raised
  RaisesMarks-length (x ∷ xs) [] raised = absurd raised
  RaisesMarks-length (x ∷ xs) (y ∷ ys) raised = omega (arith, RaisesMarks-length xs ys raised.1)

  -- the same where touches may be taken in
  pub MayRaise-append : (takes_touches : Bool) (a b c d : List (Item K V))
      → MayRaise takes_touches cut may_count a b → MayRaise takes_touches cut may_count c d
      → MayRaise takes_touches cut may_count (a ++ c) (b ++ d)
  MayRaise-append true a b c d front back = RaisesMarks-append a b c d front back
  MayRaise-append false a b c d front back = ap₂ (λ x y. x ++ y) front back

  -- the list is as long as before
  pub MayRaise-length : (takes_touches : Bool) (old new : List (Item K V))
      → MayRaise takes_touches cut may_count old new → length new ≡ length old
  MayRaise-length true old new raises = RaisesMarks-length old new raises
  MayRaise-length false old new raises = ap length raises

  -- where a count of touches may be 0, a list may stay the same
  pub MayRaise-same : (takes_touches : Bool) → may_count 0 → (items : List (Item K V))
      → MayRaise takes_touches cut may_count items items
  MayRaise-same true may items = RaisesMarks-same cut may_count may items
  MayRaise-same false may items = refl

  -- one item
  pub MayRaise-one : (takes_touches : Bool) (x y : Item K V)
      → MayTake takes_touches cut may_count x y
      → MayRaise takes_touches cut may_count (x ∷ []) (y ∷ [])
  MayRaise-one true x y takes = (takes, tt)
  MayRaise-one false x y takes = ap (λ z. z ∷ []) takes

  -- raised marks are within the greatest
  pub HaveAtMost-raised : (old new : List (Item K V)) → RaisesMarks cut may_count old new
      → HaveAtMost cut old → HaveAtMost cut new
  HaveAtMost-raised [] [] raised marks = tt
  HaveAtMost-raised [] (y ∷ ys) raised marks = absurd raised
  HaveAtMost-raised (x ∷ xs) [] raised marks = absurd raised
  HaveAtMost-raised (x ∷ xs) (y ∷ ys) raised marks = (
    subst (λ (i : Item K V). i.mark ≤ cut) (sym raised.0.2)
        (with_touches-mark cut raised.0.0 x marks.0),
    HaveAtMost-raised xs ys raised.1 marks.1,
  )

  -- a round that met an unpinned item and no victim lowers the measure of the advance
  pub advance_measure-falls : (steady : Type 0) (pinned : K → V → Bool) (takes_touches : Bool)
      (now new : List (Item K V)) (visits : ℕ) → HaveAtMost cut now
      → AfterTouches takes_touches cut may_count now
      (λ mid. EndsSomeUnpinned steady pinned mid new visits)
      → advance_measure false cut new < advance_measure takes_touches cut now
  advance_measure-falls steady pinned true now new visits marks a =
      let fall = subst (λ l. marks_of l < marks_of a.mid) (sym a.holds.0.lowers)
      (marks_of-falls a.mid a.holds.2) in
      let most = marks_of-within cut a.mid (HaveAtMost-raised now a.mid a.raises marks) in
      let many = ap (λ n. cut * n) (RaisesMarks-length now a.mid a.raises) in
      omega (arith, fall, most, many)
  advance_measure-falls steady pinned false now new visits marks a =
      subst (λ l. marks_of new < marks_of l) a.raises
      (subst (λ l. marks_of l < marks_of a.mid) (sym a.holds.0.lowers)
      (marks_of-falls a.mid a.holds.2))

module _ (K V : Type 0) (cut : ℕ) (may_count : ℕ → Type 0) where
  -- an empty list has no touches
  pub MayRaise-none : (takes_touches : Bool)
      → MayRaise {K = K} {V = V} takes_touches cut may_count [] []
  MayRaise-none true = tt
  MayRaise-none false = refl
