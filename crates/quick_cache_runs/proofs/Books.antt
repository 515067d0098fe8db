-- Books that follow fates: pairs that are led to other pairs have a book that is, too.
use Rattle.std.proofs.Common.{◌≡◌, ℕ, ◌+◌, ◌==◌, cond, List, [], ◌∷◌, ◌++◌, length, map, refl, IsPermutation, ap, subst, arith}
use Rattle.std.specs.Prelude.{nat_lt, if◌then◌else◌, count_by}
use Rattle.std.proofs.lemmas.Bool.Decides.{nat_tests}
use Rattle.std.proofs.lemmas.List.{length-map}
use Rattle.std.proofs.lemmas.List.Sorted.{length_permutation, IsPermutation-refl, IsPermutation-trans, IsPermutation-cons}
use Rattle.std.proofs.lemmas.List.Sorted.{sum_by-IsPermutation}
use Rattle.std.proofs.lemmas.List.Sums.{sum_by-append, sum_by-cons}
use Rattle.quick_cache_model.specs.CacheState.{CacheState}
use Rattle.quick_cache_runs.specs.Books.{Life, Book, living, Follows, IsBookOf, IsBalanced}
use Rattle.quick_cache_runs.specs.Conservation.{arrivals, departures}
use Rattle.quick_cache_model.specs.Fates.{Fate, residents}
use Rattle.quick_cache_model.specs.Leads.{Leads}
use Rattle.quick_cache_runs.proofs.Shuffles.{picked}

-- 1 for a number below this one
abbrev below : ℕ → ℕ → ℕ
below n next = if nat_lt n next then 1 else 0

below-next : (n next : ℕ) → below n next + cond (next == n) 1 0 ≡ below n (next + 1)
below-next n next = grind (arith, nat_tests)

module _ {K V : Type 0} where
  -- a balanced book stays balanced
  pub Follows-balanced : {book new : Book K V} {fates : List (Fate K V)} → Follows book fates new
      → IsBalanced book → IsBalanced new
  Follows-balanced (Follows.done book) balanced = balanced
  Follows-balanced (Follows.begins book key value fates new follows) balanced =
      Follows-balanced follows (λ n.
      let is : Life K V → ℕ = λ life. cond (life.number == n) 1 0 in
      omega (
        arith,
        balanced n,
        below-next n book.next,
        sum_by-cons is (record { number = book.next; key = key; value = value }) book.lives,
      ))
  Follows-balanced (Follows.goes_on book number key value left others fates new order follows)
      balanced = Follows-balanced follows (λ n.
      let is : Life K V → ℕ = λ life. cond (life.number == n) 1 0 in
      let was : Life K V = record { number = number; key = key; value = value } in
      let now : Life K V = record { number = number; key = key; value = left } in
      omega (
        arith,
        balanced n,
        sum_by-IsPermutation is book.lives (was ∷ others) order,
        sum_by-cons is was others,
        sum_by-cons is now others,
      ))
  Follows-balanced (Follows.ends book number key value others fates new order follows) balanced =
      Follows-balanced follows (λ n.
      let is : Life K V → ℕ = λ life. cond (life.number == n) 1 0 in
      let has : ℕ → ℕ = λ m. cond (m == n) 1 0 in
      let was : Life K V = record { number = number; key = key; value = value } in
      omega (
        arith,
        balanced n,
        sum_by-IsPermutation is book.lives (was ∷ others) order,
        sum_by-cons is was others,
        sum_by-append has book.ended (number ∷ []),
        sum_by-cons has number [],
      ))

  -- a book that followed these fates to these pairs
  pub record IsLed (first : Book K V) (fates : List (Fate K V)) (pairs : List (K × V))
      : Type 0 where
    pub last : Book K V
    pub follows : Follows first fates last
    pub of : IsPermutation (map living last.lives) pairs

  -- each book of the first pairs can follow to the last ones
  pub Leads-led : {pairs others : List (K × V)} {fates : List (Fate K V)}
      → Leads pairs fates others
      → (first : Book K V) → IsPermutation (map living first.lives) pairs
      → IsLed first fates others
  Leads-led (Leads.rests pairs others order) first of = record {
    last = first;
    follows = Follows.done first;
    of = IsPermutation-trans (map living first.lives) pairs others of order;
  }
  Leads-led (Leads.comes key value pairs fates others leads) first of =
      let own : Life K V = record { number = first.next; key = key; value = value } in
      let led = Leads-led leads
      (record first { next = first.next + 1; lives = own ∷ first.lives })
      (IsPermutation-cons (key, value) (map living first.lives) pairs of) in
      record {
        last = led.last;
        follows = Follows.begins first key value fates led.last led.follows;
        of = led.of;
      }
  Leads-led (Leads.changes key value left pairs rest fates others order leads) first of =
      let p = picked living first.lives (key, value) rest
      (IsPermutation-trans (map living first.lives) pairs ((key, value) ∷ rest) of order) in
      let is : p.one ≡ record { number = p.one.number; key = key; value = value } =
      ap (λ (x : K × V). record { number = p.one.number; key = x.0; value = x.1 }) p.is in
      let now : Life K V = record { number = p.one.number; key = key; value = left } in
      let led = Leads-led leads (record first { lives = now ∷ p.others })
      (subst (λ l. IsPermutation (map living (now ∷ p.others)) ((key, left) ∷ l)) p.rest
      (IsPermutation-refl (map living (now ∷ p.others)))) in
      record {
        last = led.last;
        follows = Follows.goes_on first p.one.number key value left p.others fates led.last
            (subst (λ life. IsPermutation first.lives (life ∷ p.others)) is p.order) led.follows;
        of = led.of;
      }
  Leads-led (Leads.leaves key value pairs rest fates others order leads) first of =
      let p = picked living first.lives (key, value) rest
      (IsPermutation-trans (map living first.lives) pairs ((key, value) ∷ rest) of order) in
      let is : p.one ≡ record { number = p.one.number; key = key; value = value } =
      ap (λ (x : K × V). record { number = p.one.number; key = x.0; value = x.1 }) p.is in
      let led = Leads-led leads
      (record first { lives = p.others; ended = first.ended ++ p.one.number ∷ [] })
      (subst (λ l. IsPermutation (map living p.others) l) p.rest
      (IsPermutation-refl (map living p.others))) in
      record {
        last = led.last;
        follows = Follows.ends first p.one.number key value p.others fates led.last
            (subst (λ life. IsPermutation first.lives (life ∷ p.others)) is p.order) led.follows;
        of = led.of;
      }

  -- pairs with their numbers, from a first one on
  abbrev numbered : ℕ → List (K × V) → List (Life K V)
  numbered next [] = []
  numbered next (pair ∷ pairs) =
      record { number = next; key = pair.0; value = pair.1 } ∷ numbered (next + 1) pairs

  living-numbered : (next : ℕ) (pairs : List (K × V)) → map living (numbered next pairs) ≡ pairs
  living-numbered next [] = refl
  living-numbered next (pair ∷ pairs) = ap (λ all. pair ∷ all) (living-numbered (next + 1) pairs)

  -- the numbers below the first one, and those that were given
  counted-numbered : (n next : ℕ) (pairs : List (K × V))
      → below n next + count_by (λ (life : Life K V). life.number == n) (numbered next pairs)
      ≡ below n (next + length pairs)
  counted-numbered n next [] =
      let e : next + 0 ≡ next = omega arith in omega (arith, ap (below n) e)
  counted-numbered n next (pair ∷ pairs) =
      let is : Life K V → ℕ = λ life. cond (life.number == n) 1 0 in
      let e : (next + 1) + length pairs ≡ next + length (pair ∷ pairs) = omega arith in
      omega (
        arith,
        ap (below n) e,
        below-next n next,
        counted-numbered n (next + 1) pairs,
        sum_by-cons is (record { number = next; key = pair.0; value = pair.1 })
            (numbered (next + 1) pairs),
      )

  -- a book can be opened
  pub book_of : (state : CacheState K V)
      → (book : Book K V) × IsBookOf state book × (book.ended ≡ []) × IsBalanced book
  book_of state =
      let pairs = residents state in
      let book : Book K V =
      record { next = length pairs; lives = numbered 0 pairs; ended = [] } in (
        book,
        subst (λ all. IsPermutation (map living (numbered 0 pairs)) all)
            (living-numbered 0 pairs) (IsPermutation-refl (map living (numbered 0 pairs))),
        refl,
        λ n. let e : 0 + length pairs ≡ length pairs = omega arith in
            let none : below n 0 ≡ 0 = grind (arith, nat_tests) in
            omega (arith, ap (below n) e, none, counted-numbered n 0 pairs),
      )

  -- how many lives a book has
  Follows-length : {book new : Book K V} {fates : List (Fate K V)} → Follows book fates new
      → length book.lives + arrivals fates ≡ length new.lives + departures fates
  Follows-length (Follows.done book) = refl
  Follows-length (Follows.begins book key value fates new follows) =
      omega (arith, Follows-length follows)
  Follows-length (Follows.goes_on book number key value left others fates new order follows) =
      omega (arith, Follows-length follows, length_permutation _ _ order)
  Follows-length (Follows.ends book number key value others fates new order follows) =
      omega (arith, Follows-length follows, length_permutation _ _ order)

  -- and how many residents there are before and after
  pub Follows-counted : (old new : CacheState K V) (first last : Book K V)
      (fates : List (Fate K V)) → IsBookOf old first → Follows first fates last
      → IsBookOf new last
      → length (residents old) + arrivals fates ≡ length (residents new) + departures fates
  Follows-counted old new first last fates of_old follows of_new =
      omega (
        arith,
        Follows-length follows,
        length_permutation _ _ of_old,
        length_permutation _ _ of_new,
        length-map first.lives living,
        length-map last.lives living,
      )
