-- The list of free tokens: what each call makes of it, and how it is counted.
use Rattle.std.proofs.Common.{◌≡◌, ◌≢◌, ℕ, ◌+◌, ◌<◌, ◌≤◌, true, false, true≢false, cond, eqb, List, [], ◌∷◌, ◌++◌, length, Option, Some}
use Rattle.std.proofs.Common.{None, is_some, refl, sym, ap, subst, ◌∙◌, inl, inr, arith}
use Rattle.std.proofs.lemmas.Bool.{cases_eq, eq-eqb, ne_eqb, lt-ltb, le-ltb}
use Rattle.std.proofs.lemmas.List.{length_push}
use Rattle.quick_cache_containers.specs.LinkedSlab.{with_token, first_or, times}
use Rattle.quick_cache_containers.specs.Links.{LeadsFree, link_of, free_of, is_taken, AreFree, IsFreeRest}
use Rattle.quick_cache_containers.proofs.TokenCounts.{zero_from_none, times-here, times-other, length_once}
use Rattle.quick_cache_containers.proofs.OneRing.{walk_free_list}
use Rattle.quick_cache_containers.proofs.AtTokens.{length-with_token, at_token-with_same, at_token-with_other, at_token-push_same}
use Rattle.quick_cache_containers.proofs.AtTokens.{at_token-push_other}
use Rattle.quick_cache_containers.proofs.SlotRings.{taken_within}

LeadsFree-frame : (next next' : ℕ → ℕ) (xs : List ℕ) → ((t : ℕ) → 0 < times t xs → next' t ≡ next t)
    → LeadsFree next xs → LeadsFree next' xs
LeadsFree-frame next next' [] agree leads = tt
LeadsFree-frame next next' (x ∷ xs) agree leads = (
  agree x (omega (arith, times-here x xs))
      ∙ leads.0,
  LeadsFree-frame next next' xs (λ t some. agree t (omega arith)) leads.1,
)

module _ {T : Type 0} where
  -- the walk from the first free token finds them all
  pub free_of-is : (slots : List (Option T)) (nexts : List ℕ) (first : ℕ) (free : List ℕ)
      → length nexts ≡ length slots → AreFree slots nexts first free → free_of nexts first ≡ free
  free_of-is slots nexts first [] long free =
      rw (lt-ltb (length nexts) first (omega (arith, free.begins))) refl
  free_of-is slots nexts first (x ∷ xs) long free =
      let here = free.within x (omega (arith, times-here x xs)) in
      let short = length_once (x ∷ xs) (length slots) free.once
      (λ t some. let at = free.within t some in (at.0, at.1)) in
      rw (free.begins, le-ltb (length nexts) x (omega (arith, here.1)))
      (walk_free_list (link_of nexts) (length nexts) x xs free.leads free.once (omega arith))

  -- a link of an occupied token is none of theirs
  pub AreFree-kept : (slots : List (Option T)) (nexts nexts' : List ℕ) (first : ℕ) (free : List ℕ)
      → ((t : ℕ) → is_taken slots t ≡ false → link_of nexts' t ≡ link_of nexts t)
      → AreFree slots nexts first free → AreFree slots nexts' first free
  AreFree-kept slots nexts nexts' first free kept are = record {
    begins = are.begins;
    leads = LeadsFree-frame (link_of nexts) (link_of nexts') free
        (λ t some. kept t (are.within t some).2) are.leads;
    once = are.once;
    within = are.within;
    all = are.all;
  }

  -- the token that the free list has after the first, or the next new one
  pub begins_after : (slots : List (Option T)) (nexts : List ℕ) (a : ℕ) (free : List ℕ)
      → AreFree slots nexts a (a ∷ free)
      → cond (eqb (link_of nexts a) a) (length slots + 1)
      (link_of nexts a) ≡ first_or (length slots + 1) free
  begins_after slots nexts a [] are = rw (are.leads.0, eq-eqb a a refl) refl
  begins_after slots nexts a (y ∷ ys) are =
      let differs : y ≢ a = λ same. omega (
        arith,
        subst (λ (u : ℕ). times a (a ∷ u ∷ ys) ≤ 1) same (are.once a),
        times-here a
            (a ∷ ys),
        times-here a ys,
      ) in
      rw (are.leads.0, ne_eqb y a differs) refl

  pub AreFree-reuse : (slots : List (Option T)) (nexts : List ℕ) (a : ℕ) (free : List ℕ) (item : T)
      (first : ℕ)
      → first ≡ first_or (length slots + 1) free → AreFree slots nexts a (a ∷ free)
      → AreFree (with_token slots a (Some item)) (with_token nexts a a) first free
  AreFree-reuse slots nexts a free item first begins are = record {
    begins = begins ∙ ap (λ n. first_or (n + 1) free) (sym (length-with_token slots a (Some item)));
    leads = LeadsFree-frame (link_of nexts) (link_of (with_token nexts a a)) free
        (λ t some. at_token-with_other nexts a t a 0 (off t some)) are.leads.1;
    once = λ t. omega (arith, are.once t);
    within = λ t some.
        let at = are.within t (omega arith) in (
          at.0,
          omega (arith, at.1, length-with_token slots a (Some item)),
          ap is_some
              (at_token-with_other slots a t (Some item) None (off t some)) ∙ at.2,
        );
    all = λ t positive within out.
        let differs : t ≢ a = λ same. true≢false
        (sym (ap is_some (at_token-with_same slots a (Some item) None here.0 here.1))
        ∙ ap (is_taken (with_token slots a (Some item))) (sym same) ∙ out) in
        let was = are.all t positive (omega (arith, length-with_token slots a (Some item)))
        (sym (ap is_some (at_token-with_other slots a t (Some item) None differs)) ∙ out) in
        omega (arith, times-other t a free (λ same. differs (sym same)));
  }
    where
      here : (0 < a) × (a ≤ length slots) × (is_taken slots a ≡ false)
      here = are.within a (omega (arith, times-here a free))

      none : times a free ≡ 0
      none = omega (arith, are.once a, times-here a free)

      off : (t : ℕ) → 0 < times t free → t ≢ a
      off t some same = omega (arith, none, subst (λ (u : ℕ). 0 < times u free) same some)

  pub AreFree-grow : (slots : List (Option T)) (nexts : List ℕ) (a first : ℕ) (item : T)
      → AreFree slots nexts a [] → first ≡ a + 1
      → AreFree (slots ++ Some item ∷ []) (nexts ++ a ∷ []) first []
  AreFree-grow slots nexts a first item are begins = record {
    begins = omega (arith, are.begins, length_push slots (Some item));
    leads = tt;
    once = λ t. omega arith;
    within = λ t some. absurd (omega arith);
    all = λ t positive within out.
        elim (cases_eq t (length slots + 1)) [
          | inl same ↦ absurd (true≢false
              (sym (ap is_some (at_token-push_same slots (Some item) None))
              ∙ ap (is_taken (slots ++ Some item ∷ [])) (sym same) ∙ out))
          | inr differs ↦ are.all t positive (omega (arith, length_push slots (Some item)))
              (sym (ap is_some (at_token-push_other slots t (Some item) None differs)) ∙ out)
        ];
  }

  pub AreFree-vacate : (slots : List (Option T)) (nexts : List ℕ) (first a link : ℕ) (free : List ℕ)
      → length nexts ≡ length slots → is_taken slots a ≡ true → link ≡ first_or a free
      → AreFree slots nexts first free
      → AreFree (with_token slots a None) (with_token nexts a link) a (a ∷ free)
  AreFree-vacate slots nexts first a link free long taken links are = record {
    begins = refl;
    leads = (
      at_token-with_same nexts a link 0 here.0 (omega (arith, here.1))
          ∙ links,
      LeadsFree-frame (link_of nexts) (link_of (with_token nexts a link)) free
          (λ t some. at_token-with_other nexts a t link 0 (off t some)) are.leads,
    );
    once = λ t. elim (cases_eq a t) [
      | inl same ↦ let zero = subst (λ (u : ℕ). times u free ≡ 0) same none in rw (eq-eqb a t same)
          (omega arith)
      | inr differs ↦ rw (ne_eqb a t differs) (omega (arith, are.once t))
    ];
    within = λ t some. elim (cases_eq t a) [
      | inl same ↦ rw same (here.0, omega (arith, here.1, length-with_token slots a None), gone)
      | inr differs ↦
          let at = are.within t (omega (arith, times-other t a free (λ same. differs (sym same))))
          in (
            at.0,
            omega (arith, at.1, length-with_token slots a None),
            ap is_some
                (at_token-with_other slots a t None None differs) ∙ at.2,
          )
    ];
    all = λ t positive within out. elim (cases_eq a t) [
      | inl same ↦ rw (eq-eqb a t same) (omega arith)
      | inr differs ↦
          let was = are.all t positive (omega (arith, length-with_token slots a None))
          (sym (ap is_some (at_token-with_other slots a t None None
          (λ same. differs (sym same)))) ∙ out) in
          omega arith
    ];
  }
    where
      here : (0 < a) × (a ≤ length slots)
      here = taken_within slots a taken

      gone : is_taken (with_token slots a None) a ≡ false
      gone = ap is_some (at_token-with_same slots a None None here.0 here.1)

      off : (t : ℕ) → 0 < times t free → t ≢ a
      off t some same = true≢false (sym taken ∙ ap (is_taken slots) (sym same)
          ∙ (are.within t some).2)

      none : times a free ≡ 0
      none = zero_from_none (times a free) (λ some. off a some refl)

  -- ---- counting free tokens, one link at a time

  pub IsFreeRest-start : (slots : List (Option T)) (nexts : List ℕ) (first : ℕ) (free : List ℕ)
      → AreFree slots nexts first free → IsFreeRest slots nexts free first 0
  IsFreeRest-start slots nexts first free are = record {
    rest = free;
    begins = are.begins;
    leads = are.leads;
    once = are.once;
    within = λ t some. (are.within t some).1;
    counted = omega arith;
  }

  -- past the slots none is left
  pub IsFreeRest-past : (slots : List (Option T)) (nexts free : List ℕ) (token passed : ℕ)
      → IsFreeRest slots nexts free token passed → length slots < token → passed ≡ length free
  IsFreeRest-past slots nexts free token passed left past =
      by_rest left.rest left.begins left.within left.counted
    where
      by_rest : (rest : List ℕ) → token ≡ first_or (length slots + 1) rest
          → ((t : ℕ) → 0 < times t rest → t ≤ length slots)
          → passed + length rest ≡ length free → passed ≡ length free
      by_rest [] begins within counted = omega arith
      by_rest (x ∷ xs) begins within counted =
          let here = within x (omega (arith, times-here x xs)) in absurd (omega arith)

  -- a token that names itself is the last
  pub IsFreeRest-last : (slots : List (Option T)) (nexts free : List ℕ) (token passed : ℕ)
      → IsFreeRest slots nexts free token passed → token ≤ length slots
      → link_of nexts token ≡ token → passed + 1 ≡ length free
  IsFreeRest-last slots nexts free token passed left inside own =
      by_rest left.rest left.begins left.leads left.once left.counted
    where
      by_rest : (rest : List ℕ) → token ≡ first_or (length slots + 1) rest
          → LeadsFree (link_of nexts) rest → ((t : ℕ) → times t rest ≤ 1)
          → passed + length rest ≡ length free → passed + 1 ≡ length free
      by_rest [] begins leads once counted = absurd (omega arith)
      by_rest (x ∷ []) begins leads once counted = omega arith
      by_rest (x ∷ y ∷ ys) begins leads once counted =
          let same : y ≡ x = sym leads.0 ∙ ap (link_of nexts) (sym begins) ∙ own ∙ begins in
          let twice = subst (λ (u : ℕ). times x (x ∷ u ∷ ys) ≤ 1) same (once x) in
          absurd (omega (arith, twice, times-here x (x ∷ ys), times-here x ys))

  -- another token that the link names is the next
  pub IsFreeRest-step : (slots : List (Option T)) (nexts free : List ℕ) (token passed : ℕ)
      → IsFreeRest slots nexts free token passed → token ≤ length slots
      → link_of nexts token ≢ token
      → IsFreeRest slots nexts free (link_of nexts token) (passed + 1)
  IsFreeRest-step slots nexts free token passed left inside more =
      by_rest left.rest left.begins left.leads left.once left.within left.counted
    where
      by_rest : (rest : List ℕ) → token ≡ first_or (length slots + 1) rest
          → LeadsFree (link_of nexts) rest → ((t : ℕ) → times t rest ≤ 1)
          → ((t : ℕ) → 0 < times t rest → t ≤ length slots)
          → passed + length rest ≡ length free
          → IsFreeRest slots nexts free (link_of nexts token) (passed + 1)
      by_rest [] begins leads once within counted = absurd (omega arith)
      by_rest (x ∷ []) begins leads once within counted =
          absurd (more (ap (link_of nexts) begins ∙ leads.0 ∙ sym begins))
      by_rest (x ∷ y ∷ ys) begins leads once within counted = record {
        rest = y ∷ ys;
        begins = ap (link_of nexts) begins ∙ leads.0;
        leads = leads.1;
        once = λ t. omega (arith, once t);
        within = λ t some. within t (omega arith);
        counted = omega arith;
      }
