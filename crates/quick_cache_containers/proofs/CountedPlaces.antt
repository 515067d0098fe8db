-- What places hold, counted, and a place that takes a pair.
use Rattle.std.proofs.Common.{◌≡◌, ℕ, zero, suc, ◌+◌, ◌<◌, Bool, true, false, not, ◌&&◌, ◌||◌, eqb, ltb, List, [], ◌∷◌, length, map}
use Rattle.std.proofs.Common.{replicate, set, Option, None, refl, sym, ap, ◌∙◌, inl, inr, arith, count_by}
use Rattle.std.specs.List.{list_any, filter_map, cons_option}
use Rattle.std.proofs.lemmas.Bool.{eqb-true, lt-ltb, eq-eqb}
use Rattle.std.proofs.lemmas.List.{length-set}
use Rattle.std.proofs.lemmas.List.Sums.{sum_by-cons, sum_by-set}
use Rattle.quick_cache_containers.specs.Places.{Place}
use Rattle.quick_cache_containers.specs.Table.{is_pair}
use Rattle.quick_cache_index.proofs.CountedTokens.{bit, bool_tells}
use Rattle.quick_cache_containers.specs.TableGroups.{hash_at, is_free, place_pair, pairs_of, holds_pair, place_at, empty_place, HasOneMore}
use Rattle.quick_cache_containers.specs.TableGroups.{tokens_at}

-- the sum of f over the positions of a list
abbrev pub weigh : (ℕ → ℕ) → List ℕ → ℕ
weigh f [] = 0
weigh f (x ∷ xs) = f x + weigh f xs

-- a count after a write
pub count_by-set : (good : Place → Bool) (places : List Place) (p : ℕ) (place : Place)
    → p < length places → count_by good (set places p place) + bit
    (good (place_at places p)) ≡ count_by good places + bit (good place)
count_by-set good places p place inside =
    sum_by-set (λ y. bit (good y)) places p place empty_place inside

-- each place has a pair or is free
pub length-pairs_of : (places : List Place)
    → length (pairs_of places) + count_by is_free places ≡ length places
length-pairs_of [] = refl
length-pairs_of (place ∷ rest) =
    let count = sum_by-cons (λ y. bit (is_free y)) place rest in
    let later = length-pairs_of rest in
    elim (bool_tells (is_free place)) [
      | inl holds ↦
          let pairs : length (pairs_of (place ∷ rest)) ≡ length (pairs_of rest) = rw holds refl in
          omega (arith, pairs, later, count, ap bit holds)
      | inr fails ↦
          let pairs : length (pairs_of (place ∷ rest)) ≡ suc (length (pairs_of rest)) =
          rw fails refl in
          omega (arith, pairs, later, count, ap bit fails)
    ]

pub holds_pair-free : (h k : ℕ) (place : Place) → is_free place ≡ true
    → bit (holds_pair h k place) ≡ 0
holds_pair-free h k place free =
    ap (λ b. bit (not b && ((eqb (hash_at place) h) && (eqb place.token k)))) free

pub holds_pair-taken : (h k : ℕ) (place : Place) → is_free place ≡ false
    → bit (holds_pair h k place) ≡ bit (is_pair h k (hash_at place, place.token))
holds_pair-taken h k place taken =
    ap (λ b. bit (not b && ((eqb (hash_at place) h) && (eqb place.token k)))) taken

-- a free place takes a pair
pub HasOneMore-take : (places : List Place) (p : ℕ) (place : Place) → p < length places
    → is_free (place_at places p) ≡ true → is_free place ≡ false
    → HasOneMore places (set places p place) (hash_at place) place.token
HasOneMore-take places p place inside free taken =
    let free_count = count_by-set is_free places p place inside in
    record {
      places = length-set places p place;
      pairs =
          λ h k. omega (
            arith,
            count_by-set (holds_pair h k) places p place inside,
            holds_pair-free
                h k (place_at places p) free,
            holds_pair-taken h k place taken,
          );
      taken =
          omega (
            arith,
            free_count,
            ap bit free,
            ap bit taken,
            length-pairs_of places,
            length-pairs_of (set places p place),
            length-set places p place,
          );
    }

pub and_left : (a b : Bool) → (a && b) ≡ true → a ≡ true
and_left true b e = refl
and_left false b e = e

pub and_right : (a b : Bool) → (a && b) ≡ true → b ≡ true
and_right true b e = e
and_right false b e = absurd (cc)

not_true : (a : Bool) → not a ≡ true → a ≡ false
not_true true e = absurd (cc)
not_true false e = refl

-- what passes the test of a pair has that hash, and is taken
pub holds_pair-hash : (h k : ℕ) (place : Place) → holds_pair h k place ≡ true
    → (is_free place ≡ false) × (hash_at place ≡ h) × (place.token ≡ k)
holds_pair-hash h k place holds =
    let pair = and_right (not (is_free place)) _ holds in (
      not_true (is_free place) (and_left (not (is_free place)) _ holds),
      eqb-true (hash_at place) h
          (and_left _ _ pair),
      eqb-true place.token k (and_right (eqb (hash_at place) h) _ pair),
    )

-- whether a pair is in the list, by its count over the places
pub list_any-pairs_of : (h k : ℕ) (places : List Place)
    → list_any (is_pair h k) (pairs_of places) ≡ ltb 0 (count_by (holds_pair h k) places)
list_any-pairs_of h k [] = refl
list_any-pairs_of h k (place ∷ rest) =
    let later = list_any-pairs_of h k rest in
    let count = sum_by-cons (λ y. bit (holds_pair h k y)) place rest in
    elim (bool_tells (is_free place)) [
      | inl holds ↦
          let pairs : list_any (is_pair h k) (pairs_of (place ∷ rest)) ≡ list_any (is_pair h k)
          (pairs_of rest) =
          rw holds refl in
          pairs ∙ later ∙ ap (ltb 0) (omega (arith, count, holds_pair-free h k place holds))
      | inr fails ↦
          let pairs : list_any (is_pair h k) (pairs_of (place ∷ rest)) ≡
          (is_pair h k (hash_at place, place.token) || list_any (is_pair h k) (pairs_of rest)) =
          rw fails refl in
          let here = holds_pair-taken h k place fails in
          elim (bool_tells (is_pair h k (hash_at place, place.token))) [
            | inl same_pair ↦
                let more : 0 < count_by (holds_pair h k) (place ∷ rest) =
                omega (arith, count, here, ap bit same_pair) in
                pairs ∙ ap (λ b. b || list_any (is_pair h k) (pairs_of rest)) same_pair ∙ sym
                (lt-ltb _ _ more)
            | inr other_pair ↦
                pairs ∙ ap (λ b. b || list_any (is_pair h k) (pairs_of rest)) other_pair ∙ later ∙
                ap (ltb 0) (omega (arith, count, here, ap bit other_pair))
          ]
    ]

bit-and_true : (a b c : Bool) → (a && b) ≡ true → bit (a && (b && c)) ≡ bit c
bit-and_true true true c e = refl
bit-and_true true false c e = absurd (cc)
bit-and_true false b c e = absurd (cc)

bit-and_false : (a b c : Bool) → (a && b) ≡ false → bit (a && (b && c)) ≡ 0
bit-and_false true true c e = absurd (cc)
bit-and_false true false c e = refl
bit-and_false false b c e = refl

-- the tokens of a hash along a walk, each as often as its pair
pub count_by-tokens_at : (places : List Place) (h k : ℕ) (ps : List ℕ) → count_by (λ t. eqb t k)
    (tokens_at places h ps) ≡ weigh (λ p. bit (holds_pair h k (place_at places p))) ps
count_by-tokens_at places h k [] = refl
count_by-tokens_at places h k (p ∷ rest) =
    let place = place_at places p in
    let later = count_by-tokens_at places h k rest in
    elim (bool_tells (not (is_free place) && (eqb (hash_at place) h))) [
      | inl holds ↦
          let more : tokens_at places h (p ∷ rest) ≡ place.token ∷ tokens_at places h rest =
          rw holds refl in
          omega (
            arith,
            later,
            ap (count_by (λ t. eqb t k)) more,
            sum_by-cons (λ t. bit (eqb t k))
                place.token (tokens_at places h rest),
            bit-and_true (not (is_free place))
                (eqb (hash_at place) h) (eqb place.token k) holds,
          )
      | inr fails ↦
          let more : tokens_at places h (p ∷ rest) ≡ tokens_at places h rest = rw fails refl in
          omega (
            arith,
            later,
            ap (count_by (λ t. eqb t k)) more,
            bit-and_false
                (not (is_free place)) (eqb (hash_at place) h) (eqb place.token k) fails,
          )
    ]

-- the test of a pair, at a pair
pub is_pair-equal : (x y h k : ℕ) → is_pair x y (h, k) ≡ true → (x ≡ h) × (y ≡ k)
is_pair-equal x y h k holds = (
  sym (eqb-true h x (and_left (eqb h x) (eqb k y) holds)),
  sym
      (eqb-true k y (and_right (eqb h x) (eqb k y) holds)),
)

pub is_pair-refl : (h k : ℕ) → is_pair h k (h, k) ≡ true
is_pair-refl h k = ap (λ b. b && (eqb k k)) (eq-eqb h h refl) ∙ eq-eqb k k refl

pub is_pair-other : (x y h k : ℕ) → ¬ ((x ≡ h) × (y ≡ k)) → is_pair x y (h, k) ≡ false
is_pair-other x y h k off =
    elim (bool_tells (is_pair x y (h, k))) [
      | inl holds ↦ absurd (off (is_pair-equal x y h k holds))
      | inr fails ↦ fails
    ]

-- the pairs, from what each place has
pub pairs_of-map : (places : List Place)
    → pairs_of places ≡ filter_map (λ o. o) (map place_pair places)
pairs_of-map [] = refl
pairs_of-map (place ∷ rest) = ap (cons_option (place_pair place)) (pairs_of-map rest)

pub filter_map-none : {X : Type 0} (n : ℕ)
    → filter_map {X = Option X} (λ o. o) (replicate n None) ≡ []
filter_map-none zero = refl
filter_map-none (suc n) = filter_map-none n

pub map-replicate : {X Y : Type 0} (f : X → Y) (n : ℕ) (x : X)
    → map f (replicate n x) ≡ replicate n (f x)
map-replicate f zero x = refl
map-replicate f (suc n) x = ap (λ xs. f x ∷ xs) (map-replicate f n x)

-- how often a pair is there, by the pairs alone
pub count_by-pairs_of : (h k : ℕ) (places : List Place)
    → count_by (holds_pair h k) places ≡ count_by (is_pair h k) (pairs_of places)
count_by-pairs_of h k [] = refl
count_by-pairs_of h k (place ∷ rest) =
    let count = sum_by-cons (λ y. bit (holds_pair h k y)) place rest in
    let later = count_by-pairs_of h k rest in
    elim (bool_tells (is_free place)) [
      | inl holds ↦
          let pairs : count_by (is_pair h k) (pairs_of (place ∷ rest)) ≡ count_by (is_pair h k)
          (pairs_of rest) =
          rw holds refl in
          omega (arith, count, later, pairs, holds_pair-free h k place holds)
      | inr fails ↦
          let pairs : count_by (is_pair h k) (pairs_of (place ∷ rest)) ≡ count_by (is_pair h k)
          ((hash_at place, place.token) ∷ pairs_of rest) =
          rw fails refl in
          omega (
            arith,
            count,
            later,
            pairs,
            holds_pair-taken h k place fails,
            sum_by-cons
                (λ p. bit (is_pair h k p)) (hash_at place, place.token) (pairs_of rest),
          )
    ]
