-- One ring: the path that its links lead, and what becomes of it when a token leaves or joins.
use Rattle.std.proofs.Common.{◌≡◌, ◌≢◌, ℕ, zero, suc, ◌+◌, ◌<◌, ◌≤◌, Bool, true, cond, eqb, List, [], ◌∷◌, ◌++◌, length, refl, sym, ap}
use Rattle.std.proofs.Common.{subst, ◌∙◌, inl, inr, arith}
use Rattle.std.proofs.lemmas.Bool.{cases_eq, cases_Bool, eqb-true, eqb-false, eq-eqb, ne_eqb}
use Rattle.quick_cache_containers.specs.LinkedSlab.{first_or, times, without, before_head}
use Rattle.quick_cache_containers.specs.Links.{Leads, IsRing, walk, LeadsFree, walk_free}
use Rattle.quick_cache_containers.proofs.TokenCounts.{times-here, times-other, times-append, without_none, times-without_le}

-- ---- a walk along links comes round to the ring

pub walk_ring : (next : ℕ → ℕ) (head n : ℕ) (xs : List ℕ) → Leads next xs head → times head xs ≡ 0
    → length xs ≤ n → walk next head n (first_or head xs) ≡ xs
walk_ring next head zero [] leads none short = refl
walk_ring next head (suc n) [] leads none short = rw (eq-eqb head head refl)
walk_ring next head zero (x ∷ xs) leads none short = absurd (omega arith)
walk_ring next head (suc n) (x ∷ xs) leads none short =
    elim (cases_Bool (eqb x head)) [
      | inl hit ↦ absurd (omega (arith, rw hit at none))
      | inr miss ↦ rw (miss, leads.0)
          (ap (λ ys. x ∷ ys) (walk_ring next head n xs leads.1 (omega (arith, rw miss at none))
          (omega arith)))
    ]

-- ---- a token leaves its ring

first-without : (next : ℕ → ℕ) (a e : ℕ) (xs : List ℕ) → e ≢ a → times a xs ≤ 1 → Leads next xs e
    → cond (eqb (first_or e xs) a) (next a) (first_or e xs) ≡ first_or e (without a xs)
first-without next a e [] differs once leads = rw (ne_eqb e a differs)
first-without next a e (y ∷ ys) differs once leads =
    elim (cases_Bool (eqb y a)) [
      | inl hit ↦
          let none : times a ys ≡ 0 = omega (arith, rw hit at once) in
          rw (hit, without_none a ys none) (ap next (sym (eqb-true y a hit)) ∙ leads.0)
      | inr miss ↦ rw miss
    ]

pub Leads-without : (next next' : ℕ → ℕ) (a e : ℕ) (xs : List ℕ)
    → ((t : ℕ) → 0 < times t xs → t ≢ a → next' t ≡ cond (eqb (next t) a) (next a) (next t)) → e ≢ a
    → times a xs ≤ 1 → Leads next xs e → Leads next' (without a xs) e
Leads-without next next' a e [] agree differs once leads = tt
Leads-without next next' a e (x ∷ xs) agree differs once leads =
    let rest = Leads-without next next' a e xs (λ t some other. agree t (omega arith) other) differs
    (omega arith) leads.1 in
    elim (cases_Bool (eqb x a)) [
      | inl hit ↦ rw hit rest
      | inr miss ↦
          let here : next' x ≡ cond (eqb (next x) a) (next a) (next x) =
          agree x (omega (arith, times-here x xs)) (eqb-false x a miss) in
          let turned : cond (eqb (next x) a) (next a) (next x) ≡ first_or e (without a xs) =
          rw leads.0 (first-without next a e xs differs (omega arith) leads.1) in
          rw miss (here ∙ turned, rest)
    ]

pub IsRing-without : (next next' : ℕ → ℕ) (held : ℕ → Bool) (a head : ℕ) (rest : List ℕ)
    → ((t : ℕ) → held t ≡ true → t ≢ a → next' t ≡ cond (eqb (next t) a) (next a) (next t))
    → head ≢ a → IsRing next held head rest → IsRing next' held head (without a rest)
IsRing-without next next' held a head rest agree differs ring =
    let leads = Leads-without next next' a head (head ∷ rest)
    (λ t some other. agree t (ring.held t some) other) differs (ring.once a) ring.leads in
    let fewer : (t : ℕ) → times t (head ∷ without a rest) ≤ times t (head ∷ rest) =
    λ t. omega (arith, times-without_le t a rest) in
    record {
      leads = rw (ne_eqb head a differs) at leads;
      once = λ t. omega (arith, fewer t, ring.once t);
      held = λ t some. ring.held t (omega (arith, fewer t));
    }

-- ---- a token joins a ring

-- each head gets one token before it
times-before_head : (t a head : ℕ) (xs : List ℕ)
    → times t (before_head a head xs) ≡ times t xs + cond (eqb a t) (times head xs) 0
times-before_head t a head [] =
    elim (cases_Bool (eqb a t)) [ inl hit ↦ rw hit | inr miss ↦ rw miss ]
times-before_head t a head (x ∷ xs) =
    let rest = times-before_head t a head xs in
    elim (cases_Bool (eqb a t)) [
      | inl hit ↦
          let more = rw hit at rest in
          elim (cases_Bool (eqb x head))
          [ inl top ↦ rw (top, hit) (omega arith) | inr low ↦ rw (low, hit) (omega arith) ]
      | inr miss ↦
          let more = rw miss at rest in
          elim (cases_Bool (eqb x head))
          [ inl top ↦ rw (top, miss) (omega arith) | inr low ↦ rw (low, miss) (omega arith) ]
    ]

Leads-before_head : (next next' : ℕ → ℕ) (a head e x : ℕ) (xs : List ℕ)
    → ((t : ℕ) → 0 < times t (x ∷ xs) → next' t ≡ cond (eqb (next t) head) a (next t))
    → next' a ≡ head → Leads next (x ∷ xs) e
    → Leads next' (x ∷ (before_head a head xs ++ cond (eqb e head) (a ∷ []) [])) e
Leads-before_head next next' a head e x [] agree own leads =
    let here = agree x (omega (arith, times-here x [])) in
    elim (cases_Bool (eqb e head)) [
      | inl hit ↦ rw hit (rw (leads.0, hit) at here, (own ∙ sym (eqb-true e head hit), tt))
      | inr miss ↦ rw miss (rw (leads.0, miss) at here, tt)
    ]
Leads-before_head next next' a head e x (y ∷ ys) agree own leads =
    let here = agree x (omega (arith, times-here x (y ∷ ys))) in
    let rest = Leads-before_head next next' a head e y ys
    (λ t some. agree t (omega arith)) own leads.1 in
    elim (cases_Bool (eqb y head)) [
      | inl hit ↦ rw hit (rw (leads.0, hit) at here, (own ∙ sym (eqb-true y head hit), rest))
      | inr miss ↦ rw miss (rw (leads.0, miss) at here, rest)
    ]

pub IsRing-joined : (next next' : ℕ → ℕ) (held : ℕ → Bool) (a head first : ℕ) (rest : List ℕ)
    → ((t : ℕ) → held t ≡ true → t ≢ a → next' t ≡ cond (eqb (next t) head) a (next t))
    → next' a ≡ head → held a ≡ true → times a (first ∷ rest) ≡ 0 → IsRing next held first rest
    → IsRing next' held first (before_head a head rest ++ cond (eqb first head) (a ∷ []) [])
IsRing-joined next next' held a head first rest agree own taken out ring =
    let other : (t : ℕ) → 0 < times t (first ∷ rest)
    → t ≢ a = λ t some same. omega
    (arith, subst (λ (u : ℕ). 0 < times u (first ∷ rest)) same some) in
    record {
      leads = Leads-before_head next next' a head first first rest
          (λ t some. agree t (ring.held t some) (other t some)) own ring.leads;
      once = λ t. once t;
      held = λ t some. held_by t some;
    }
  where
    counts : (t : ℕ)
        → times t (first ∷ (before_head a head rest ++ cond (eqb first head) (a ∷ []) []))
        ≡ times t (first ∷ rest) + cond (eqb a t) (times head (first ∷ rest)) 0
    counts t =
        let both = times-append t (before_head a head rest) (cond (eqb first head) (a ∷ []) []) in
        let part = times-before_head t a head rest in
        elim (cases_Bool (eqb a t)) [
          | inl hit ↦
              let more = rw hit at part in
              elim (cases_Bool (eqb first head)) [
                | inl top ↦ let all = rw (top, hit) at both in rw (top, hit) (omega arith)
                | inr low ↦ let all = rw low at both in rw (low, hit) (omega arith)
              ]
          | inr miss ↦
              let more = rw miss at part in
              elim (cases_Bool (eqb first head)) [
                | inl top ↦ let all = rw (top, miss) at both in rw (top, miss) (omega arith)
                | inr low ↦ let all = rw low at both in rw (low, miss) (omega arith)
              ]
        ]

    once : (t : ℕ)
        → times t (first ∷ (before_head a head rest ++ cond (eqb first head) (a ∷ []) [])) ≤ 1
    once t =
        elim (cases_Bool (eqb a t)) [
          | inl hit ↦
              let all = rw hit at (counts t) in
              let none = subst (λ (u : ℕ). times u (first ∷ rest) ≡ 0) (eqb-true a t hit) out in
              omega (arith, ring.once head)
          | inr miss ↦ let all = rw miss at (counts t) in omega (arith, ring.once t)
        ]

    held_by : (t : ℕ)
        → 0 < times t (first ∷ (before_head a head rest ++ cond (eqb first head) (a ∷ []) []))
        → held t ≡ true
    held_by t some =
        elim (cases_Bool (eqb a t)) [
          | inl hit ↦ ap held (sym (eqb-true a t hit)) ∙ taken
          | inr miss ↦ let all = rw miss at (counts t) in ring.held t (omega arith)
        ]

-- the path to the head now ends at the token
Leads-to_token : (next next' : ℕ → ℕ) (a head x : ℕ) (xs : List ℕ)
    → ((t : ℕ) → 0 < times t (x ∷ xs) → next' t ≡ cond (eqb (next t) head) a (next t))
    → times head xs ≡ 0 → Leads next (x ∷ xs) head → Leads next' (x ∷ xs) a
Leads-to_token next next' a head x [] agree none leads =
    let here = agree x (omega (arith, times-here x [])) in
    (rw (leads.0, eq-eqb head head refl) at here, tt)
Leads-to_token next next' a head x (y ∷ ys) agree none leads =
    let here = agree x (omega (arith, times-here x (y ∷ ys))) in
    let differs : y ≢ head = λ same. omega
    (arith, subst (λ (u : ℕ). times u (y ∷ ys) ≡ 0) (sym same) none, times-here y ys) in (
      rw (leads.0, ne_eqb y head differs) at here,
      Leads-to_token next next' a head y ys
          (λ t some. agree t (omega arith)) (omega arith) leads.1,
    )

pub IsRing-of_joined : (next next' : ℕ → ℕ) (held : ℕ → Bool) (a head : ℕ) (rest : List ℕ)
    → ((t : ℕ) → held t ≡ true → t ≢ a → next' t ≡ cond (eqb (next t) head) a (next t))
    → next' a ≡ head → held a ≡ true → times a (head ∷ rest) ≡ 0 → IsRing next held head rest
    → IsRing next' held a (head ∷ rest)
IsRing-of_joined next next' held a head rest agree own taken out ring =
    let other : (t : ℕ) → 0 < times t (head ∷ rest)
    → t ≢ a = λ t some same. omega
    (arith, subst (λ (u : ℕ). 0 < times u (head ∷ rest)) same some) in
    let none : times head rest ≡ 0 = omega (arith, ring.once head, times-here head rest) in
    record {
      leads = (
        own,
        Leads-to_token next next' a head head rest
            (λ t some. agree t (ring.held t some) (other t some)) none ring.leads,
      );
      once = λ t. elim (cases_eq a t) [
        | inl same ↦ let zero = subst (λ (u : ℕ). times u (head ∷ rest) ≡ 0) same out
            in rw (eq-eqb a t same) (omega arith)
        | inr differs ↦ rw (ne_eqb a t differs) (omega (arith, ring.once t))
      ];
      held = λ t some. elim (cases_eq a t) [
        | inl same ↦ ap held (sym same) ∙ taken
        | inr differs ↦ ring.held t (omega (arith, times-other t a (head ∷ rest) differs))
      ];
    }

-- a token that only itself leads to is in no other ring
times_alone : (next : ℕ → ℕ) (a e x : ℕ) (xs : List ℕ) → Leads next (x ∷ xs) e
    → ((t : ℕ) → 0 < times t (x ∷ xs) → next t ≡ a → t ≡ a) → x ≢ a → times a (x ∷ xs) ≡ 0
times_alone next a e x [] leads only differs = rw (ne_eqb x a differs) (omega arith)
times_alone next a e x (y ∷ ys) leads only differs =
    let other : y ≢ a = λ same. differs
    (only x (omega (arith, times-here x (y ∷ ys))) (leads.0 ∙ same)) in
    rw (ne_eqb x a differs) (omega
    (arith, times_alone next a e y ys leads.1 (λ t some. only t (omega arith)) other))

pub out_of_ring : (next : ℕ → ℕ) (held : ℕ → Bool) (a head : ℕ) (rest : List ℕ)
    → IsRing next held head rest → ((t : ℕ) → held t ≡ true → next t ≡ a → t ≡ a) → head ≢ a
    → times a (head ∷ rest) ≡ 0
out_of_ring next held a head rest ring only differs =
    times_alone next a head head rest ring.leads (λ t some. only t (ring.held t some)) differs

-- ---- links that no token of the ring has

Leads-frame : (next next' : ℕ → ℕ) (e : ℕ) (xs : List ℕ)
    → ((t : ℕ) → 0 < times t xs → next' t ≡ next t) → Leads next xs e → Leads next' xs e
Leads-frame next next' e [] agree leads = tt
Leads-frame next next' e (x ∷ xs) agree leads = (
  agree x (omega (arith, times-here x xs))
      ∙ leads.0,
  Leads-frame next next' e xs (λ t some. agree t (omega arith)) leads.1,
)

pub IsRing-frame : (next next' : ℕ → ℕ) (held held' : ℕ → Bool) (head : ℕ) (rest : List ℕ)
    → ((t : ℕ) → 0 < times t (head ∷ rest) → next' t ≡ next t)
    → ((t : ℕ) → 0 < times t (head ∷ rest) → held' t ≡ true) → IsRing next held head rest
    → IsRing next' held' head rest
IsRing-frame next next' held held' head rest agree taken ring =
    record {
      leads = Leads-frame next next' head (head ∷ rest) agree ring.leads;
      once = ring.once;
      held = taken;
    }

pub IsRing-alone : (next : ℕ → ℕ) (held : ℕ → Bool) (a : ℕ) → next a ≡ a → held a ≡ true
    → IsRing next held a []
IsRing-alone next held a own taken = record {
  leads = (own, tt);
  once = λ t. elim (cases_Bool (eqb a t))
      [ inl hit ↦ rw hit (omega arith) | inr miss ↦ rw miss (omega arith) ];
  held = λ t some. elim (cases_Bool (eqb a t)) [
    | inl hit ↦ ap held (sym (eqb-true a t hit))
        ∙ taken
    | inr miss ↦ absurd (omega (arith, rw miss at some))
  ];
}

-- ---- free tokens

pub walk_free_list : (next : ℕ → ℕ) (n x : ℕ) (xs : List ℕ) → LeadsFree next (x ∷ xs)
    → ((t : ℕ) → times t (x ∷ xs) ≤ 1) → length xs < n → walk_free next n x ≡ x ∷ xs
walk_free_list next zero x xs leads once short = absurd (omega arith)
walk_free_list next (suc n) x [] leads once short = rw (leads.0, eq-eqb x x refl)
walk_free_list next (suc n) x (y ∷ ys) leads once short =
    let differs : y ≢ x = λ same. omega (
      arith,
      once y,
      subst (λ (u : ℕ). times y (u ∷ y ∷ ys) ≤ 1) (sym same)
          (once y),
      times-here y (y ∷ ys),
      times-here y ys,
    ) in
    rw (leads.0, ne_eqb y x differs)
    (ap (λ zs. x ∷ zs) (walk_free_list next n y ys leads.1 (λ t. omega (arith, once t))
    (omega arith)))
