-- What stands at tokens, and what becomes of it where one token changes.
use Rattle.std.proofs.Common.{◌≡◌, ◌≢◌, ℕ, zero, suc, ◌<◌, ◌≤◌, cond, eqb, Bool, true, false, List, [], ◌∷◌, ◌++◌, ◌*◌, sum_by, length, map}
use Rattle.std.proofs.Common.{Option, Some, None, refl, sym, ap, subst, ◌∙◌, inl, inr, arith, append-nil, ◌+◌}
use Rattle.std.proofs.lemmas.Bool.{cases_eq, eq-eqb, ne_eqb}
use Rattle.std.proofs.lemmas.List.Sums.{sum_by-cons}
use Rattle.std.specs.List.{AllByRecursion}
use Rattle.std.specs.List.Sorted.{IsPermutation}
use Rattle.std.proofs.lemmas.List.Sorted.{IsPermutation-refl, IsPermutation-trans, IsPermutation-cons, IsPermutation-to_front}
use Rattle.std.proofs.lemmas.List.Sorted.{IsPermutation-append_left}
use Rattle.quick_cache_model.specs.Sequences.{times, joined_around}
use Rattle.quick_cache_store.proofs.pool.TokenCounts.{times-here, times-other, times-append}
use Rattle.quick_cache_store.specs.Lists.{StandsIn, dropped, ahead_of, behind, restarted}
use Rattle.quick_cache_store.specs.Sound.{put, gather, upto, weigh}

-- ---- the tokens up to n

pub times-upto_past : (t n : ℕ) → n < t → times t (upto n) ≡ 0
times-upto_past t zero past = refl
times-upto_past t (suc n) past =
    omega (
      arith,
      times-append t (upto n) (suc n ∷ []),
      times-upto_past t n
          (omega arith),
      times-other t (suc n) [] (λ same. omega (arith, same)),
    )

pub times-upto : (t n : ℕ) → 0 < t → t ≤ n → times t (upto n) ≡ 1
times-upto t zero positive within = absurd (omega arith)
times-upto t (suc n) positive within =
    elim (cases_eq (suc n) t) [
      | inl same ↦
          let here = times-here t [] in
          let step : times t (upto n ++ t ∷ []) ≡ 1 =
          omega (
            arith,
            times-append t (upto n) (t ∷ []),
            times-upto_past t n
                (omega (arith, same)),
            here,
          ) in
          subst (λ (u : ℕ). times t (upto n ++ u ∷ []) ≡ 1) (sym same) step
      | inr differs ↦
          omega (
            arith,
            times-append t (upto n) (suc n ∷ []),
            times-upto t n positive
                (omega (arith, differs)),
            times-other t (suc n) [] differs,
          )
    ]

module _ {Y : Type 0} where
  pub put-append : (o : Option Y) (ys zs : List Y) → put o (ys ++ zs) ≡ put o ys ++ zs
  put-append None ys zs = refl
  put-append (Some y) ys zs = refl

  pub gather-append : (f : ℕ → Option Y) (xs ys : List ℕ)
      → gather f (xs ++ ys) ≡ gather f xs ++ gather f ys
  gather-append f [] ys = refl
  gather-append f (x ∷ xs) ys = ap (put (f x)) (gather-append f xs ys)
      ∙ put-append (f x) (gather f xs) (gather f ys)

  -- the same stands there
  pub gather-same : (f g : ℕ → Option Y) (xs : List ℕ) → ((t : ℕ) → 0 < times t xs → g t ≡ f t)
      → gather g xs ≡ gather f xs
  gather-same f g [] same = refl
  gather-same f g (x ∷ xs) same =
      rw (
        same x (omega (arith, times-here x xs)),
        gather-same f g xs
            (λ t some. same t (omega arith)),
      ) refl

  pub gather-other : (f g : ℕ → Option Y) (t : ℕ) (xs : List ℕ) → ((u : ℕ) → u ≢ t → g u ≡ f u)
      → times t xs ≡ 0 → gather g xs ≡ gather f xs
  gather-other f g t xs others out =
      gather-same f g xs (λ u some. others u
      (λ same. let e = subst (λ (w : ℕ). times w xs ≡ 0) (sym same) out in omega arith))

  -- one more token at the end
  pub gather-push : (f g : ℕ → Option Y) (t : ℕ) (xs : List ℕ) (y : Y)
      → ((u : ℕ) → u ≢ t → g u ≡ f u) → times t xs ≡ 0 → g t ≡ Some y
      → gather g (xs ++ t ∷ []) ≡ gather f xs ++ y ∷ []
  gather-push f g t xs y others out here =
      gather-append g xs (t ∷ []) ∙ rw (gather-other f g t xs others out, here) refl

  pub gather-push_none : (f g : ℕ → Option Y) (t : ℕ) (xs : List ℕ) → ((u : ℕ) → u ≢ t → g u ≡ f u)
      → times t xs ≡ 0 → g t ≡ None → gather g (xs ++ t ∷ []) ≡ gather f xs
  gather-push_none f g t xs others out here =
      gather-append g xs (t ∷ []) ∙ rw (gather-other f g t xs others out, here) (append-nil _)

  -- nothing stands there, and nothing did
  pub gather-neither : (f g : ℕ → Option Y) (t : ℕ) (xs : List ℕ) → ((u : ℕ) → u ≢ t → g u ≡ f u)
      → f t ≡ None → g t ≡ None → gather g xs ≡ gather f xs
  gather-neither f g t xs others was is =
      gather-same f g xs (λ u some. elim (cases_eq u t) [
        | inl same ↦ ap g same ∙ is ∙ sym was ∙ ap f (sym same)
        | inr differs ↦ others u differs
      ])

  -- where the token had nothing, there is one more, somewhere
  pub gather-more : (f g : ℕ → Option Y) (t : ℕ) (xs : List ℕ) (y : Y)
      → ((u : ℕ) → u ≢ t → g u ≡ f u) → times t xs ≡ 1 → f t ≡ None → g t ≡ Some y
      → IsPermutation (y ∷ gather f xs) (gather g xs)
  gather-more f g t [] y others once was is = absurd (omega (arith, once))
  gather-more f g t (x ∷ xs) y others once was is =
      elim (cases_eq x t) [
        | inl same ↦
            let none : times t xs ≡ 0 = omega
            (arith, subst (λ (u : ℕ). times t (u ∷ xs) ≡ 1) same once, times-here t xs) in
            let P : List Y → Type 0 = λ ys. IsPermutation (y ∷ gather f (x ∷ xs)) ys in
            let before : gather f (x ∷ xs) ≡ gather f xs = rw (same, was) refl in
            let after : gather g (x ∷ xs) ≡ y ∷ gather f xs =
            rw (same, is, gather-other f g t xs others none) refl in
            rw (before, after) (IsPermutation-refl (y ∷ gather f xs))
        | inr differs ↦
            let rest = gather-more f g t xs y others
            (omega (arith, once, times-other t x xs differs)) was is in
            by_here (f x) refl (others x differs) rest
      ]
    where
      swapped : (a b : Y) (ys : List Y) → IsPermutation (a ∷ b ∷ ys) (b ∷ a ∷ ys)
      swapped a b ys = IsPermutation-append_left ys (a ∷ b ∷ []) (b ∷ a ∷ [])
          (IsPermutation-to_front (a ∷ []) b)

      by_here : (o : Option Y) → f x ≡ o → g x ≡ f x → IsPermutation (y ∷ gather f xs) (gather g xs)
          → IsPermutation (y ∷ put (f x) (gather f xs)) (put (g x) (gather g xs))
      by_here None fx gx rest = rw (gx, fx) rest
      by_here (Some z) fx gx rest = rw (gx, fx)
          (IsPermutation-trans _ _ _ (swapped y z (gather f xs)) (IsPermutation-cons z _ _ rest))

  -- ---- what is there is found

  pub gather-all : (P : Y → Type 0) (f : ℕ → Option Y) (xs : List ℕ)
      → ((t : ℕ) (y : Y) → 0 < times t xs → f t ≡ Some y → P y) → AllByRecursion P (gather f xs)
  gather-all P f [] each = tt
  gather-all P f (x ∷ xs) each =
      by_here (f x) refl (gather-all P f xs (λ t y some. each t y (omega arith)))
    where
      by_here : (o : Option Y) → f x ≡ o → AllByRecursion P (gather f xs)
          → AllByRecursion P (put o (gather f xs))
      by_here None is rest = rest
      by_here (Some y) is rest = (each x y (omega (arith, times-here x xs)) is, rest)

  pub gather-has : (f : ℕ → Option Y) (xs : List ℕ) (t : ℕ) (y : Y) → 0 < times t xs → f t ≡ Some y
      → StandsIn (gather f xs) y
  gather-has f [] t y some is = absurd (omega (arith, some))
  gather-has f (x ∷ xs) t y some is =
      elim (cases_eq x t) [
        | inl same ↦ record { before = []; after = gather f xs; split = rw (same, is) refl }
        | inr differs ↦
            let rest = gather-has f xs t y (omega (arith, times-other t x xs differs)) is in
            record {
              before = put (f x) rest.before;
              after = rest.after;
              split = ap (put (f x)) rest.split ∙ put-append (f x) rest.before (y ∷ rest.after);
            }
      ]

  -- and what is found is there
  pub gather-from : (f : ℕ → Option Y) (xs : List ℕ) (y : Y) → StandsIn (gather f xs) y → (t : ℕ)
      × (0 < times t xs) × (f t ≡ Some y)
  gather-from f [] y there = by_split there.before there.split
    where
      by_split : (before : List Y) → [] ≡ before ++ y ∷ there.after → (t : ℕ) × (0 < times t [])
          × (f t ≡ Some y)
      by_split [] e = absurd (cc)
      by_split (z ∷ zs) e = absurd (cc)
  gather-from f (x ∷ xs) y there =
      by_here (λ more. gather-from f xs y more) (f x) refl there.before there.split
    where
      later : (StandsIn (gather f xs) y → (t : ℕ) × (0 < times t xs) × (f t ≡ Some y))
          → (before after : List Y) → gather f xs ≡ before ++ y ∷ after → (t : ℕ)
          × (0 < times t (x ∷ xs)) × (f t ≡ Some y)
      later on before after e =
          let rest = on (record { before = before; after = after; split = e }) in
          (rest.0, omega (arith, rest.1), rest.2)

      by_here : (StandsIn (gather f xs) y → (t : ℕ) × (0 < times t xs) × (f t ≡ Some y))
          → (o : Option Y) → f x ≡ o → (before : List Y)
          → put o (gather f xs) ≡ before ++ y ∷ there.after → (t : ℕ) × (0 < times t (x ∷ xs))
          × (f t ≡ Some y)
      by_here on None is before e = later on before there.after e
      by_here on (Some z) is [] e = let same : z ≡ y =
          cc in (x, omega (arith, times-here x xs), is ∙ ap (λ w. Some w) same)
      by_here on (Some z) is (w ∷ ws) e = later on ws there.after (cc)

  -- ---- a token that goes

  module _ (name : Y → ℕ) (f g : ℕ → Option Y) (t : ℕ)
      (named : (u : ℕ) (y : Y) → f u ≡ Some y → name y ≡ u) (others : (u : ℕ) → u ≢ t → g u ≡ f u)
      (gone : g t ≡ None) where
    pub gather-dropped : (xs : List ℕ) → gather g xs ≡ dropped name t (gather f xs)
    gather-dropped [] = refl
    gather-dropped (x ∷ xs) = by_here (gather-dropped xs) (f x) refl
      where
        by_here : gather g xs ≡ dropped name t (gather f xs) → (o : Option Y) → f x ≡ o
            → put (g x) (gather g xs) ≡ dropped name t (put o (gather f xs))
        by_here rest None is =
            elim (cases_eq x t) [
              | inl same ↦ rw (same, gone) rest
              | inr differs ↦ rw (others x differs, is) rest
            ]
        by_here rest (Some y) is =
            elim (cases_eq x t) [
              | inl same ↦ rw (eq-eqb (name y) t (named x y is ∙ same), same, gone) rest
              | inr differs ↦ rw (
                ne_eqb (name y) t
                    (λ e. differs (sym (named x y is) ∙ e)),
                others x differs,
                is,
              )
                  (ap (λ ys. y ∷ ys) rest)
            ]

    gather-ahead : (pre post : List ℕ) (y : Y) → f t ≡ Some y → times t pre ≡ 0
        → gather f pre ≡ ahead_of name t (gather f (pre ++ t ∷ post))
    gather-ahead [] post y is out = rw (is, eq-eqb (name y) t (named t y is)) refl
    gather-ahead (x ∷ xs) post y is out =
        by_here (λ fewer. gather-ahead xs post y is fewer) (f x) refl
      where
        differs : x ≢ t
        differs same = omega (
          arith,
          subst
              (λ (u : ℕ). times t (u ∷ xs) ≡ 0) same out,
          times-here t xs,
        )

        few : times t xs ≡ 0
        few = omega (arith, times-other t x xs differs)

        by_here : (times t xs ≡ 0 → gather f xs ≡ ahead_of name t (gather f (xs ++ t ∷ post)))
            → (o : Option Y) → f x ≡ o → put o (gather f xs)
            ≡ ahead_of name t (put o (gather f (xs ++ t ∷ post)))
        by_here on None at = on few
        by_here on (Some z) at = rw (ne_eqb (name z) t (λ e. differs (sym (named x z at) ∙ e)))
            (ap (λ zs. z ∷ zs) (on few))

    gather-behind : (pre post : List ℕ) (y : Y) → f t ≡ Some y → times t pre ≡ 0
        → gather f post ≡ behind name t (gather f (pre ++ t ∷ post))
    gather-behind [] post y is out = rw (is, eq-eqb (name y) t (named t y is)) refl
    gather-behind (x ∷ xs) post y is out =
        by_here (λ fewer. gather-behind xs post y is fewer) (f x) refl
      where
        differs : x ≢ t
        differs same = omega (
          arith,
          subst
              (λ (u : ℕ). times t (u ∷ xs) ≡ 0) same out,
          times-here t xs,
        )

        few : times t xs ≡ 0
        few = omega (arith, times-other t x xs differs)

        by_here : (times t xs ≡ 0 → gather f post ≡ behind name t (gather f (xs ++ t ∷ post)))
            → (o : Option Y) → f x ≡ o → gather f post
            ≡ behind name t (put o (gather f (xs ++ t ∷ post)))
        by_here on None at = on few
        by_here on (Some z) at = rw (ne_eqb (name z) t (λ e. differs (sym (named x z at) ∙ e)))
            (on few)

    pub gather-restarted : (pre post : List ℕ) (y : Y) → f t ≡ Some y
        → times t (pre ++ t ∷ post) ≤ 1
        → gather g (post ++ pre) ≡ restarted name t (gather f (pre ++ t ∷ post))
    gather-restarted pre post y is once =
        let count = times-append t pre (t ∷ post) in
        let here = times-here t post in
        let out : times t pre ≡ 0 = omega arith in
        let out_post : times t post ≡ 0 = omega arith in
        gather-append g post pre
        ∙ rw (
          gather-other f g t post others out_post,
          gather-other f g t pre others out,
          ←
              gather-behind pre post y is out,
          ← gather-ahead pre post y is out,
        ) refl

  -- a token that is not there
  pub untouched : (name : Y → ℕ) (f : ℕ → Option Y) (t : ℕ)
      → ((u : ℕ) (y : Y) → f u ≡ Some y → name y ≡ u) → (xs : List ℕ) → times t xs ≡ 0
      → (behind name t (gather f xs) ≡ []) × (ahead_of name t (gather f xs) ≡ gather f xs)
  untouched name f t named [] out = (refl, refl)
  untouched name f t named (x ∷ xs) out =
      by_here (λ fewer. untouched name f t named xs fewer) (f x) refl
    where
      differs : x ≢ t
      differs same = omega (
        arith,
        subst
            (λ (u : ℕ). times t (u ∷ xs) ≡ 0) same out,
        times-here t xs,
      )

      few : times t xs ≡ 0
      few = omega (arith, times-other t x xs differs)

      by_here : (times t xs ≡ 0 → (behind name t (gather f xs) ≡ [])
          × (ahead_of name t (gather f xs) ≡ gather f xs)) → (o : Option Y) → f x ≡ o
          → (behind name t (put o (gather f xs)) ≡ [])
          × (ahead_of name t (put o (gather f xs)) ≡ put o (gather f xs))
      by_here on None at = on few
      by_here on (Some z) at =
          let miss = ne_eqb (name z) t (λ e. differs (sym (named x z at) ∙ e)) in
          (rw miss (on few).0, rw miss (ap (λ zs. z ∷ zs) (on few).1))

  -- as many as tokens, where something stands at each
  pub length-gather : (f : ℕ → Option Y) (xs : List ℕ)
      → ((t : ℕ) → 0 < times t xs → (y : Y) × (f t ≡ Some y)) → length (gather f xs) ≡ length xs
  length-gather f [] each = refl
  length-gather f (x ∷ xs) each =
      let here = each x (omega (arith, times-here x xs)) in
      rw here.1 (ap suc (length-gather f xs (λ t some. each t (omega arith))))

  -- where what stands at one token changes
  pub gather-changed : (name : Y → ℕ) (f g : ℕ → Option Y) (t : ℕ) (change : Y → Y)
      → ((u : ℕ) (y : Y) → f u ≡ Some y → name y ≡ u) → ((u : ℕ) → u ≢ t → g u ≡ f u)
      → ((y : Y) → f t ≡ Some y → g t ≡ Some (change y)) → (f t ≡ None → g t ≡ None) → (xs : List ℕ)
      → gather g xs ≡ map (λ y. cond (eqb (name y) t) (change y) y) (gather f xs)
  gather-changed name f g t change named others is isnt [] = refl
  gather-changed name f g t change named others is isnt (x ∷ xs) =
      by_here (gather-changed name f g t change named others is isnt xs) (f x) refl
    where
      by_here : gather g xs ≡ map (λ y. cond (eqb (name y) t) (change y) y) (gather f xs)
          → (o : Option Y) → f x ≡ o → put (g x) (gather g xs)
          ≡ map (λ y. cond (eqb (name y) t) (change y) y) (put o (gather f xs))
      by_here rest None at = elim (cases_eq x t) [
        | inl same ↦ rw (ap g same ∙ isnt (ap f (sym same) ∙ at)) rest
        | inr differs ↦ rw (others x differs ∙ at) rest
      ]
      by_here rest (Some y) at = elim (cases_eq x t) [
        | inl same ↦ rw (
          ap g same ∙ is y (ap f (sym same) ∙ at),
          eq-eqb (name y) t
              (named x y at ∙ same),
        ) (ap (λ ys. change y ∷ ys) rest)
        | inr differs ↦ rw (
          others x differs
              ∙ at,
          ne_eqb (name y) t (λ e. differs (sym (named x y at) ∙ e)),
        )
            (ap (λ ys. y ∷ ys) rest)
      ]

-- ---- what tokens weigh

pub weigh-append : (f : ℕ → ℕ) (xs ys : List ℕ) → weigh f (xs ++ ys) ≡ weigh f xs + weigh f ys
weigh-append f [] ys = omega arith
weigh-append f (x ∷ xs) ys = omega (arith, weigh-append f xs ys)

pub weigh-same : (f g : ℕ → ℕ) (xs : List ℕ) → ((t : ℕ) → 0 < times t xs → g t ≡ f t)
    → weigh g xs ≡ weigh f xs
weigh-same f g [] same = refl
weigh-same f g (x ∷ xs) same =
    omega (
      arith,
      same x (omega (arith, times-here x xs)),
      weigh-same f g xs
          (λ t some. same t (omega arith)),
    )

-- a list without the token between these two, in its order or begun behind it
pub weigh-around : (f : ℕ → ℕ) (restarts : Bool) (before after : List ℕ)
    → weigh f (joined_around restarts before after) ≡ weigh f before + weigh f after
weigh-around f false before after = weigh-append f before after
weigh-around f true before after = omega (arith, weigh-append f after before)

pub times-around : (u : ℕ) (restarts : Bool) (before after : List ℕ)
    → times u (joined_around restarts before after) ≡ times u before + times u after
times-around u false before after = times-append u before after
times-around u true before after = omega (arith, times-append u after before)

pub weigh-member : (f : ℕ → ℕ) (t : ℕ) (xs : List ℕ) → 0 < times t xs → f t ≤ weigh f xs
weigh-member f t [] some = absurd (omega (arith, some))
weigh-member f t (x ∷ xs) some =
    elim (cases_eq x t) [
      | inl same ↦ omega (arith, ap f same)
      | inr differs ↦ omega (arith, weigh-member f t xs (omega (arith, times-other t x xs differs)))
    ]

pub weigh-light : (f : ℕ → ℕ) (xs : List ℕ) → ((t : ℕ) → f t < 18446744073709551616)
    → weigh f xs ≤ length xs * 18446744073709551616
weigh-light f [] light = omega arith
weigh-light f (x ∷ xs) light = omega (arith, light x, weigh-light f xs light)

pub weigh-gather : {Y : Type 0} (f : ℕ → Option Y) (weight : Y → ℕ) (g : ℕ → ℕ) (xs : List ℕ)
    → ((t : ℕ) → 0 < times t xs → (y : Y) × (f t ≡ Some y) × (weight y ≡ g t))
    → weigh g xs ≡ sum_by weight (gather f xs)
weigh-gather f weight g [] each = refl
weigh-gather f weight g (x ∷ xs) each =
    let here = each x (omega (arith, times-here x xs)) in
    let rest = weigh-gather f weight g xs (λ t some. each t (omega arith)) in
    rw here.1 (ap (λ n. n + weigh g xs) (sym here.2) ∙ ap (λ n. weight here.0 + n) rest
    ∙ sym (sum_by-cons weight here.0 (gather f xs)))
