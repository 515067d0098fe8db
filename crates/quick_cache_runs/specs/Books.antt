-- Books: the pairs that a cache was handed, each with a number, and which of them ended.
use Rattle.std.specs.Prelude.{◌≡◌, ℕ, ◌+◌, List, [], ◌∷◌, ◌++◌, map, count_by, nat_lt, ◌==◌, if◌then◌else◌}
use Rattle.std.specs.List.Sorted.{IsPermutation}
use Rattle.quick_cache_model.specs.CacheState.{CacheState}
use Rattle.quick_cache_model.specs.Fates.{Fate, Comes, Changes, Leaves, residents}

-- a pair as it now stands, with the number that it was given when it came
pub record Life (K V : Type 0) : Type 0 where
  pub number : ℕ
  pub key : K
  pub value : V

-- The pairs that live, in no order; the numbers of those that ended, in the order in which they
-- did; and the next number.
pub record Book (K V : Type 0) : Type 0 where
  pub next : ℕ
  pub lives : List (Life K V)
  pub ended : List ℕ

module _ {K V : Type 0} where
  -- The book after these fates, one after another. A pair that comes is given the next number. Each
  -- other fate befalls one life, which has the pair that it names: a life whose value changes keeps
  -- its number, and one that leaves ends.
  pub data Follows : Book K V → List (Fate K V) → Book K V → Type 0 where
    done : (book : Book K V) → Follows book [] book
    begins : (book : Book K V) (key : K) (value : V) (fates : List (Fate K V)) (new : Book K V)
        → Follows (record book {
          next = book.next + 1;
          lives = record { number = book.next; key = key; value = value } ∷ book.lives;
        }) fates new
        → Follows book (Comes key value ∷ fates) new
    goes_on : (book : Book K V) (number : ℕ) (key : K) (value left : V) (others : List (Life K V))
        (fates : List (Fate K V)) (new : Book K V)
        → IsPermutation book.lives
        (record { number = number; key = key; value = value } ∷ others)
        → Follows (record book {
          lives = record { number = number; key = key; value = left } ∷ others;
        }) fates new
        → Follows book (Changes key value left ∷ fates) new
    ends : (book : Book K V) (number : ℕ) (key : K) (value : V) (others : List (Life K V))
        (fates : List (Fate K V)) (new : Book K V)
        → IsPermutation book.lives
        (record { number = number; key = key; value = value } ∷ others)
        → Follows (record book { lives = others; ended = book.ended ++ number ∷ [] }) fates new
        → Follows book (Leaves key value ∷ fates) new

  -- the pair of a life
  abbrev pub living : Life K V → K × V
  living life = (life.key, life.value)

  -- the lives are the residents, each one once
  abbrev pub IsBookOf : CacheState K V → Book K V → Type 0
  IsBookOf state book = IsPermutation (map living book.lives) (residents state)

  -- how many lives have this number
  abbrev pub times_living : ℕ → Book K V → ℕ
  times_living n book = count_by (λ life. life.number == n) book.lives

  -- how often it has ended
  abbrev pub times_ended : ℕ → Book K V → ℕ
  times_ended n book = count_by (λ m. m == n) book.ended

  -- Each number that was given is of one life or has ended once, and not both; no other is in the
  -- book.
  abbrev pub IsBalanced : Book K V → Type 0
  IsBalanced book = (n : ℕ)
      → times_living n book + times_ended n book ≡ (if nat_lt n book.next then 1 else 0)
