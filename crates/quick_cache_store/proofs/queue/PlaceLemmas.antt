-- Places of a queue, the tokens that stand there, and the queue without one of them.
use Rattle.std.proofs.Common.{◌≡◌, ◌≢◌, ℕ, zero, suc, ◌+◌, ◌<◌, ◌≤◌, Bool, true, false, not, eqb, MatchBool, List, [], ◌∷◌, ◌++◌, length}
use Rattle.std.proofs.Common.{take, drop, set, get_or, Option, Some, None, MatchOption, refl, sym, ap, ◌∙◌, subst, arith}
use Rattle.std.specs.Int.NonZero.{non_zero_u32_get as number}
use Rattle.std.specs.declared.num.NonZeroU32.{NonZeroU32 as Token}
use Rattle.std.proofs.lemmas.Bool.{eqb-true, eqb-false}
use Rattle.std.proofs.lemmas.List.{append_assoc, take-append-drop, drop_more, take_more, take_more_set, take-set, drop-set-lt, append-nil}
use Rattle.std.proofs.lemmas.List.{get_or_read, length-take-le, length-append, length_push, set_at, take_at, drop_at}
use mir.Val.{bool_byte}
use Rattle.quick_cache_store.specs.Queues.{turned, tokens_at, BeginsWithToken, StandsAt, Leaves}

-- ---- the tokens at some places

pub tokens_at-append : (xs ys : List ℕ) → tokens_at (xs ++ ys) ≡ tokens_at xs ++ tokens_at ys
tokens_at-append [] ys = refl
tokens_at-append (zero ∷ xs) ys = tokens_at-append xs ys
tokens_at-append (suc n ∷ xs) ys = ap (λ zs. suc n ∷ zs) (tokens_at-append xs ys)

pub tokens_at-token : (n : ℕ) (xs : List ℕ) → 0 < n → tokens_at (n ∷ xs) ≡ n ∷ tokens_at xs
tokens_at-token zero xs some = absurd (omega arith)
tokens_at-token (suc n) xs some = refl

-- a token at the last place comes last
pub tokens_at-push : (xs : List ℕ) (n : ℕ) → 0 < n
    → tokens_at (xs ++ n ∷ []) ≡ tokens_at xs ++ n ∷ []
tokens_at-push xs n some =
    tokens_at-append xs (n ∷ []) ∙ ap (λ ys. tokens_at xs ++ ys) (tokens_at-token n [] some)

-- among the tokens no place is empty
pub tokens_at-twice : (xs : List ℕ) → tokens_at (tokens_at xs) ≡ tokens_at xs
tokens_at-twice [] = refl
tokens_at-twice (zero ∷ xs) = tokens_at-twice xs
tokens_at-twice (suc n ∷ xs) = ap (λ ys. suc n ∷ ys) (tokens_at-twice xs)

pub begins-tokens_at : (xs : List ℕ) → BeginsWithToken (tokens_at xs)
begins-tokens_at [] = tt
begins-tokens_at (zero ∷ xs) = begins-tokens_at xs
begins-tokens_at (suc n ∷ xs) = omega arith

-- a place more, behind them all
pub begins-push : (xs : List ℕ) (n : ℕ) → 0 < n → BeginsWithToken xs
    → BeginsWithToken (xs ++ n ∷ [])
begins-push [] n some begins = some
begins-push (x ∷ xs) n some begins = begins

pub length-tokens_at : (xs : List ℕ) → length (tokens_at xs) ≤ length xs
length-tokens_at [] = omega arith
length-tokens_at (zero ∷ xs) = omega (arith, length-tokens_at xs)
length-tokens_at (suc n ∷ xs) = omega (arith, length-tokens_at xs)

-- where no place is empty, the first is not
pub begins-full : (xs : List ℕ) → length xs ≤ length (tokens_at xs) → BeginsWithToken xs
begins-full [] full = tt
begins-full (zero ∷ xs) full = absurd (omega (arith, length-tokens_at xs))
begins-full (suc n ∷ xs) full = omega arith

-- ---- the tokens come to the front

module _ (xs old : List ℕ) (count i : ℕ) (below : i < length old)
    (same : length xs ≡ length old) (within : count ≤ i)
    (front : take count xs ≡ tokens_at (take i old)) (rest : drop i xs ≡ drop i old) where
  here : get_or xs i 0 ≡ get_or old i 0
  here =
      let inside : i < length xs = omega arith in
      ap (λ (ys : List ℕ). get_or ys 0 0)
      (sym (drop_more xs i 0 inside) ∙ rest ∙ drop_more old i 0 below)

  one_more : tokens_at (take (i + 1) old) ≡ tokens_at (take i old) ++ tokens_at (get_or xs i 0 ∷ [])
  one_more =
      ap tokens_at (take_more old i 0 below ∙ ap (λ (m : ℕ). take i old ++ m ∷ []) (sym here))
      ∙ tokens_at-append (take i old) (get_or xs i 0 ∷ [])

  -- what stands at a place is put behind the tokens, and counted if it is one
  pub gathered : (more : ℕ) → more ≡ bool_byte (not (eqb (get_or xs i 0) 0))
      → take (count + more) (set xs count (get_or xs i 0)) ≡ tokens_at (take (i + 1) old)
  gathered more is = rw is (by_test (eqb (get_or xs i 0) 0) refl)
    where
      by_test : (b : Bool) → eqb (get_or xs i 0) 0 ≡ b
          → take (count + bool_byte (not b)) (set xs count (get_or xs i 0))
          ≡ tokens_at (take (i + 1) old)
      by_test true e =
          let none : count + bool_byte (not true) ≡ count = omega arith in
          ap (λ (n : ℕ). take n (set xs count (get_or xs i 0))) none
          ∙ take-set xs count (get_or xs i 0) ∙ front
          ∙ sym (one_more ∙ ap (λ (m : ℕ). tokens_at (take i old) ++ tokens_at (m ∷ []))
          (eqb-true (get_or xs i 0) 0 e) ∙ append-nil (tokens_at (take i old)))
      by_test false e =
          let some : 0 < get_or xs i 0 = omega (arith, eqb-false (get_or xs i 0) 0 e) in
          take_more_set xs count (get_or xs i 0) (omega arith)
          ∙ ap (λ (ys : List ℕ). ys ++ get_or xs i 0 ∷ []) front
          ∙ sym (one_more ∙ ap (λ (ys : List ℕ). tokens_at (take i old) ++ ys)
          (tokens_at-token (get_or xs i 0) [] some))

  -- the places behind it are as they were
  pub not_gathered : (x : ℕ) → drop (i + 1) (set xs count x) ≡ drop (i + 1) old
  not_gathered x =
      let inside : i < length xs = omega arith in
      drop-set-lt (i + 1) xs count x (omega arith)
      ∙ ap (λ (ys : List ℕ). drop 1 ys)
      (sym (drop_more xs i 0 inside) ∙ rest ∙ drop_more old i 0 below)

  pub gathered_within : (b : Bool) (more : ℕ) → more ≡ bool_byte b → count + more ≤ i + 1
  gathered_within true more is = omega (arith, is)
  gathered_within false more is = omega (arith, is)

-- ---- the first places are turned

-- one place more is turned
pub turned_more : (xs ys : List ℕ) (i : ℕ) → i < length xs
    → ys ≡ drop i xs ++ take i xs
    → drop 1 ys ++ take 1 ys ≡ drop (i + 1) xs ++ take (i + 1) xs
turned_more xs ys i below is =
    let x = get_or xs i 0 in
    let here = is ∙ ap (λ zs. zs ++ take i xs) (drop_more xs i 0 below) in
    ap (λ (zs : List ℕ). drop 1 zs ++ take 1 zs) here
    ∙ append_assoc (drop (i + 1) xs) (take i xs) (x ∷ [])
    ∙ ap (λ zs. drop (i + 1) xs ++ zs) (sym (take_more xs i 0 below))

-- there are as many places, and as many tokens
pub length-rotated : (xs : List ℕ) (i : ℕ) → length (drop i xs ++ take i xs) ≡ length xs
length-rotated xs i =
    omega (
      arith,
      length-append (drop i xs) (take i xs),
      length-append (take i xs) (drop i xs),
      ap length (take-append-drop i xs),
    )

-- the first token comes last
pub tokens_at-turned : (xs : List ℕ) → BeginsWithToken xs
    → tokens_at (drop 1 xs ++ take 1 xs) ≡ turned (tokens_at xs)
tokens_at-turned [] begins = refl
tokens_at-turned (zero ∷ xs) begins = absurd (omega arith)
tokens_at-turned (suc n ∷ xs) begins = tokens_at-append xs (suc n ∷ [])

pub length-turned : (xs : List ℕ) → length (turned xs) ≡ length xs
length-turned [] = refl
length-turned (x ∷ xs) = omega (arith, length_push xs x)

-- ---- where a token stands

-- what was read at the first place is the first token
pub first_token : (xs : List ℕ) (n : ℕ) (first : Option Token) → BeginsWithToken xs
    → 0 < length xs → n ≡ get_or xs 0 n → MatchOption first (n ≡ 0) (λ token. number token ≡ n)
    → MatchOption first (tokens_at xs ≡ []) (λ token. StandsAt (tokens_at xs) 0 (number token))
first_token [] n first begins some read is = absurd (omega arith)
first_token (x ∷ xs) n None begins some read is = absurd (omega arith)
first_token (x ∷ xs) n (Some token) begins some read is = record {
  before = [];
  after = tokens_at xs;
  split = tokens_at-token x xs begins ∙ ap (λ (m : ℕ). m ∷ tokens_at xs) (sym read ∙ sym is);
  far = refl;
}

stands_read : (xs : List ℕ) (i n : ℕ) → i < length xs → n ≡ get_or xs i 0 → StandsAt xs i n
stands_read xs i n below is = record {
  before = take i xs;
  after = drop (i + 1) xs;
  split = sym (take-append-drop i xs) ∙ ap (λ ys. take i xs ++ ys) (drop_more xs i 0 below)
      ∙ ap (λ (m : ℕ). take i xs ++ m ∷ drop (i + 1) xs) (sym is);
  far = length-take-le i xs (omega arith);
}

-- a comparison with what was read tells whether a token stands there
pub stands_where_same : (xs : List ℕ) (i n token : ℕ) → i < length xs → n ≡ get_or xs i n
    → MatchBool (eqb n token) (StandsAt xs i token) (get_or xs i 0 ≢ token)
stands_where_same xs i n token below read = by_test (eqb n token) refl
  where
    is : n ≡ get_or xs i 0
    is = get_or_read xs i n below read 0

    by_test : (b : Bool) → eqb n token ≡ b
        → MatchBool b (StandsAt xs i token) (get_or xs i 0 ≢ token)
    by_test true same =
        subst (λ (m : ℕ). StandsAt xs i m) (eqb-true n token same) (stands_read xs i n below is)
    by_test false differs = λ e. eqb-false n token differs (is ∙ e)

pub stands_below : (xs : List ℕ) (i token : ℕ) → StandsAt xs i token → i < length xs
stands_below xs i token s =
    omega (arith, s.far, ap length s.split, length-append s.before (token ∷ s.after))

-- a place behind the first is emptied
pub begins-emptied : (xs : List ℕ) (i : ℕ) → i ≢ 0 → BeginsWithToken xs
    → BeginsWithToken (set xs i 0)
begins-emptied [] i behind begins = tt
begins-emptied (x ∷ xs) zero behind begins = absurd (behind refl)
begins-emptied (x ∷ xs) (suc i) behind begins = begins

-- ---- the queue without a token

-- the tokens before a place, that at it, and those behind it
parted : (xs : List ℕ) (i token : ℕ) → 0 < token → (s : StandsAt xs i token)
    → tokens_at xs ≡ tokens_at s.before ++ token ∷ tokens_at s.after
parted xs i token some s =
    ap tokens_at s.split ∙ tokens_at-append s.before (token ∷ s.after)
    ∙ ap (λ (ys : List ℕ). tokens_at s.before ++ ys) (tokens_at-token token s.after some)

-- its place is empty
pub leaves_emptied : (xs : List ℕ) (i token : ℕ) → 0 < token → StandsAt xs i token
    → Leaves false (tokens_at xs) token (tokens_at (set xs i 0))
leaves_emptied xs i token some s = record {
  before = tokens_at s.before;
  after = tokens_at s.after;
  split = parted xs i token some s;
  left = ap tokens_at (ap (λ (ys : List ℕ). set ys i 0) s.split
      ∙ set_at s.before token s.after 0 i s.far) ∙ tokens_at-append s.before (0 ∷ s.after);
}

-- the first of these leaves
pub leaves_front : (tokens : List ℕ) (token : ℕ) → StandsAt tokens 0 token
    → Leaves false tokens token (drop 1 tokens)
leaves_front tokens token s = record {
  before = [];
  after = s.after;
  split = front s.before s.split s.far;
  left = ap (drop 1) (front s.before s.split s.far);
}
  where
    front : (before : List ℕ) → tokens ≡ before ++ token ∷ s.after → length before ≡ 0
        → tokens ≡ token ∷ s.after
    front [] split far = split
    front (x ∷ before) split far = absurd (omega (arith, far))

-- its place is the first, and goes
pub leaves_first : (xs : List ℕ) (token : ℕ) → 0 < token → StandsAt xs 0 token
    → Leaves false (tokens_at xs) token (drop 1 (tokens_at xs))
leaves_first xs token some s = leaves_front (tokens_at xs) token (record {
  before = tokens_at s.before;
  after = tokens_at s.after;
  split = parted xs 0 token some s;
  far = omega (arith, s.far, length-tokens_at s.before);
})

-- all before its place were turned, and its place goes
pub leaves_turned : (xs ys : List ℕ) (i token : ℕ) → 0 < token → StandsAt xs i token
    → ys ≡ drop i xs ++ take i xs
    → Leaves true (tokens_at xs) token (tokens_at (drop 1 ys))
leaves_turned xs ys i token some s is =
    let ahead : take i xs ≡ s.before =
    ap (take i) s.split ∙ take_at s.before (token ∷ s.after) i s.far in
    let behind : drop i xs ≡ token ∷ s.after =
    ap (drop i) s.split ∙ drop_at s.before (token ∷ s.after) i s.far in
    record {
      before = tokens_at s.before;
      after = tokens_at s.after;
      split = parted xs i token some s;
      left = ap (λ (zs : List ℕ). tokens_at (drop 1 zs)) is
          ∙ (λ k. tokens_at (drop 1 (behind k ++ ahead k)))
          ∙ tokens_at-append s.after s.before;
    }

-- one of the tokens that were counted left, and its place with it
pub counted-first : (xs : List ℕ) (empty : ℕ) → BeginsWithToken xs
    → empty + length (tokens_at xs) ≡ length xs
    → (tokens_at (drop 1 xs) ≡ drop 1 (tokens_at xs))
    × (empty + length (tokens_at (drop 1 xs)) ≡ length (drop 1 xs))
counted-first [] empty begins counted = (refl, counted)
counted-first (zero ∷ xs) empty begins counted = absurd (omega arith)
counted-first (suc n ∷ xs) empty begins counted = (refl, omega (arith, counted))

-- an empty place at the front went, and was counted
pub counted-empty : (xs : List ℕ) (empty : ℕ) → xs ≡ 0 ∷ drop 1 xs
    → empty + length (tokens_at xs) ≡ length xs
    → (0 < empty) × (tokens_at (drop 1 xs) ≡ tokens_at xs)
    × (length (drop 1 xs) + 1 ≡ length xs)
counted-empty [] empty is counted = absurd (omega (arith, ap length is))
counted-empty (zero ∷ xs) empty is counted =
    (omega (arith, counted, length-tokens_at xs), refl, omega arith)
counted-empty (suc n ∷ xs) empty is counted = absurd (omega (arith, ap (λ ys. get_or ys 0 0) is))

-- there is one token fewer
pub length-left : (old new : List ℕ) (token : ℕ) → Leaves false old token new
    → length new + 1 ≡ length old
length-left old new token l =
    omega (
      arith,
      ap length l.left,
      ap length l.split,
      length-append l.before l.after,
      length-append l.before (token ∷ l.after),
    )

-- the same where the queue begins behind it
pub length-restarted : (old new : List ℕ) (token : ℕ) → Leaves true old token new
    → length new + 1 ≡ length old
length-restarted old new token l =
    omega (
      arith,
      ap length l.left,
      ap length l.split,
      length-append l.after l.before,
      length-append l.before (token ∷ l.after),
    )
