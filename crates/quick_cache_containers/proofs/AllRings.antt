-- The links of all rings together, when one token leaves, joins, comes or goes.
use Rattle.std.proofs.Common.{◌≡◌, ◌≢◌, ℕ, ◌<◌, Bool, true, false, true≢false, cond, eqb, List, [], ◌∷◌, ◌++◌, refl, sym, ap, subst, ◌∙◌}
use Rattle.std.proofs.Common.{inl, inr, arith}
use Rattle.std.proofs.lemmas.Bool.{cases_eq, eq-eqb, ne_eqb}
use Rattle.quick_cache_containers.specs.LinkedSlab.{first_or, times, without, before_head}
use Rattle.quick_cache_containers.specs.Links.{Leads, IsRing, AreRings}
use Rattle.quick_cache_containers.proofs.TokenCounts.{times-here}
use Rattle.quick_cache_containers.proofs.OneRing.{IsRing-without, IsRing-joined, IsRing-of_joined, out_of_ring, IsRing-frame, IsRing-alone}

-- ---- the neighbours of a token

next_held : (next : ℕ → ℕ) (held : ℕ → Bool) (head : ℕ) (rest : List ℕ) → IsRing next held head rest
    → held (next head) ≡ true
next_held next held head rest ring = by_rest rest ring.leads.0 ring.held
  where
    by_rest : (xs : List ℕ) → next head ≡ first_or head xs
        → ((t : ℕ) → 0 < times t (head ∷ xs) → held t ≡ true) → held (next head) ≡ true
    by_rest [] leads taken = rw leads (taken head (omega (arith, times-here head [])))
    by_rest (y ∷ ys) leads taken = rw leads (taken y (omega (arith, times-here y ys)))

before_end : (next : ℕ → ℕ) (e x : ℕ) (xs : List ℕ) → Leads next (x ∷ xs) e
    → (p : ℕ) × (0 < times p (x ∷ xs)) × (next p ≡ e)
before_end next e x [] leads = (x, omega (arith, times-here x []), leads.0)
before_end next e x (y ∷ ys) leads = let found =
    before_end next e y ys leads.1 in (found.0, omega (arith, found.1), found.2)

pub held-next : (next prev : ℕ → ℕ) (held : ℕ → Bool) → AreRings next prev held → (t : ℕ)
    → held t ≡ true → held (next t) ≡ true
held-next next prev held rings t taken = let ring =
    rings.ring t taken in next_held next held t ring.0 ring.1

-- `next` leads back from the token that `prev` leads to
pub before : (next prev : ℕ → ℕ) (held : ℕ → Bool) → AreRings next prev held → (t : ℕ)
    → held t ≡ true → (held (prev t) ≡ true) × (next (prev t) ≡ t)
before next prev held rings t taken =
    let ring = rings.ring t taken in
    let found = before_end next t t ring.0 ring.1.leads in
    let there = ring.1.held found.0 found.1 in
    let same : prev t ≡ found.0 = ap prev (sym found.2) ∙ rings.back found.0 there in
    (ap held same ∙ there, ap next same ∙ found.2)

-- the links once the token is out of its ring
pub record IsUnlinked (next prev next' prev' : ℕ → ℕ) (held : ℕ → Bool) (a : ℕ) : Type 0 where
  pub next_own : next' a ≡ a
  pub prev_own : prev' a ≡ a
  pub next_others : (t : ℕ) → held t ≡ true → t ≢ a
      → next' t ≡ cond (eqb (next t) a) (next a) (next t)
  pub prev_others : (t : ℕ) → held t ≡ true → t ≢ a
      → prev' t ≡ cond (eqb (prev t) a) (prev a) (prev t)

pub AreRings-unlinked : (next prev next' prev' : ℕ → ℕ) (held : ℕ → Bool) (a : ℕ) → held a ≡ true
    → AreRings next prev held → IsUnlinked next prev next' prev' held a → AreRings next' prev' held
AreRings-unlinked next prev next' prev' held a taken rings links = record {
  back = λ t there. elim (cases_eq t a) [
    | inl same ↦ rw same (ap prev' links.next_own ∙ links.prev_own)
    | inr differs ↦ back_other t there differs
  ];
  ring = λ t there. elim (cases_eq t a) [
    | inl same ↦ rw same ([], IsRing-alone next' held a links.next_own taken)
    | inr differs ↦ let ring = rings.ring t there
        in (
          without a ring.0,
          IsRing-without next next' held a t ring.0 links.next_others differs
              ring.1,
        )
  ];
}
  where
    back_other : (t : ℕ) → held t ≡ true → t ≢ a → prev' (next' t) ≡ t
    back_other t there differs =
        elim (cases_eq (next t) a) [
          | inl last ↦
              let to : next' t ≡ next a = links.next_others t there differs
              ∙ rw (eq-eqb (next t) a last) refl in
              let from : prev a ≡ t = ap prev (sym last) ∙ rings.back t there in
              let off : next a ≢ a = λ same. differs
              (sym from ∙ ap prev (sym same) ∙ rings.back a taken) in
              let turned = links.prev_others (next a)
              (held-next next prev held rings a taken) off in
              ap prev' to ∙ turned ∙ rw (eq-eqb (prev (next a)) a (rings.back a taken)) from
          | inr more ↦
              let to : next' t ≡ next t = links.next_others t there differs
              ∙ rw (ne_eqb (next t) a more) refl in
              let turned = links.prev_others (next t)
              (held-next next prev held rings t there) more in
              ap prev' to ∙ turned ∙ rw (rings.back t there, ne_eqb t a differs) refl
        ]

-- the links once the token, a ring of one, is put in before the head
pub record IsLinkedIn (next prev next' prev' : ℕ → ℕ) (held : ℕ → Bool) (a head : ℕ) : Type 0 where
  pub next_own : next' a ≡ head
  pub prev_own : prev' a ≡ prev head
  pub next_others : (t : ℕ) → held t ≡ true → t ≢ a → next' t ≡ cond (eqb (next t) head) a (next t)
  pub prev_others : (t : ℕ) → held t ≡ true → t ≢ a → prev' t ≡ cond (eqb t head) a (prev t)

pub only_itself : (next prev : ℕ → ℕ) (held : ℕ → Bool) (a : ℕ) → AreRings next prev held
    → held a ≡ true → next a ≡ a → (t : ℕ) → held t ≡ true → next t ≡ a → t ≡ a
only_itself next prev held a rings taken own t there to = sym (rings.back t there) ∙ ap prev to
    ∙ ap prev (sym own) ∙ rings.back a taken

pub AreRings-linked : (next prev next' prev' : ℕ → ℕ) (held : ℕ → Bool) (a head : ℕ) → held a ≡ true
    → held head ≡ true → next a ≡ a → head ≢ a → AreRings next prev held
    → IsLinkedIn next prev next' prev' held a head → AreRings next' prev' held
AreRings-linked next prev next' prev' held a head taken there_head own apart rings links = record {
  back = λ t there. elim (cases_eq t a) [
    | inl same ↦ rw same (ap prev' links.next_own ∙ links.prev_others head there_head apart
        ∙ rw (eq-eqb head head refl) refl)
    | inr differs ↦ back_other t there differs
  ];
  ring = λ t there. elim (cases_eq t a) [
    | inl same ↦ let ring = rings.ring head there_head in rw same (
      head ∷ ring.0,
      IsRing-of_joined next next' held a head ring.0 links.next_others
          links.next_own taken (out_of_ring next held a head ring.0 ring.1
          (only_itself next prev held a rings taken own) apart) ring.1,
    )
    | inr differs ↦ let ring = rings.ring t there
        in (
          before_head a head ring.0 ++ cond (eqb t head)
              (a ∷ []) [],
          IsRing-joined next next' held a head t ring.0 links.next_others links.next_own
              taken (out_of_ring next held a t ring.0 ring.1
              (only_itself next prev held a rings taken own) differs) ring.1,
        )
  ];
}
  where
    back_other : (t : ℕ) → held t ≡ true → t ≢ a → prev' (next' t) ≡ t
    back_other t there differs =
        elim (cases_eq (next t) head) [
          | inl last ↦
              let to : next' t ≡ a = links.next_others t there differs
              ∙ rw (eq-eqb (next t) head last) refl in
              ap prev' to ∙ links.prev_own ∙ ap prev (sym last) ∙ rings.back t there
          | inr more ↦
              let to : next' t ≡ next t = links.next_others t there differs
              ∙ rw (ne_eqb (next t) head more) refl in
              let off : next t ≢ a = λ same. differs
              (only_itself next prev held a rings taken own t there same) in
              ap prev' to ∙ links.prev_others (next t) (held-next next prev held rings t there) off
              ∙ rw (ne_eqb (next t) head more) (rings.back t there)
        ]

-- a free token becomes a ring of its own
pub record IsPlaced (next prev next' prev' : ℕ → ℕ) (held held' : ℕ → Bool) (a : ℕ) : Type 0 where
  pub was_free : held a ≡ false
  pub now_held : held' a ≡ true
  pub next_own : next' a ≡ a
  pub prev_own : prev' a ≡ a
  pub next_others : (t : ℕ) → t ≢ a → next' t ≡ next t
  pub prev_others : (t : ℕ) → t ≢ a → prev' t ≡ prev t
  pub held_others : (t : ℕ) → t ≢ a → held' t ≡ held t

pub IsRing-placed : (next prev next' prev' : ℕ → ℕ) (held held' : ℕ → Bool) (a t : ℕ)
    (rest : List ℕ)
    → IsPlaced next prev next' prev' held held' a → IsRing next held t rest
    → IsRing next' held' t rest
IsRing-placed next prev next' prev' held held' a t rest placed ring =
    let off : (u : ℕ) → 0 < times u (t ∷ rest)
    → u ≢ a = λ u some same. true≢false
    (sym (ring.held u some) ∙ ap held same ∙ placed.was_free) in
    IsRing-frame next next' held held' t rest (λ u some. placed.next_others u (off u some))
    (λ u some. placed.held_others u (off u some) ∙ ring.held u some) ring

pub AreRings-placed : (next prev next' prev' : ℕ → ℕ) (held held' : ℕ → Bool) (a : ℕ)
    → AreRings next prev held → IsPlaced next prev next' prev' held held' a
    → AreRings next' prev' held'
AreRings-placed next prev next' prev' held held' a rings placed = record {
  back = λ t there. elim (cases_eq t a) [
    | inl same ↦ rw same (ap prev' placed.next_own ∙ placed.prev_own)
    | inr differs ↦
        let was = sym (placed.held_others t differs) ∙ there in
        let off : next t ≢ a = λ same. true≢false
        (sym (held-next next prev held rings t was) ∙ ap held same ∙ placed.was_free) in
        ap prev' (placed.next_others t differs) ∙ placed.prev_others (next t) off ∙ rings.back t was
  ];
  ring = λ t there. elim (cases_eq t a) [
    | inl same ↦ rw same ([], IsRing-alone next' held' a placed.next_own placed.now_held)
    | inr differs ↦
        let ring = rings.ring t (sym (placed.held_others t differs) ∙ there) in
        (ring.0, IsRing-placed next prev next' prev' held held' a t ring.0 placed ring.1)
  ];
}

-- a token that is a ring of its own becomes free
pub record IsVacated (next next' : ℕ → ℕ) (held held' : ℕ → Bool) (a : ℕ) : Type 0 where
  pub was_held : held a ≡ true
  pub now_free : held' a ≡ false
  pub was_alone : next a ≡ a
  pub next_others : (t : ℕ) → t ≢ a → next' t ≡ next t
  pub held_others : (t : ℕ) → t ≢ a → held' t ≡ held t

pub IsRing-vacated : (next prev next' : ℕ → ℕ) (held held' : ℕ → Bool) (a t : ℕ) (rest : List ℕ)
    → AreRings next prev held → IsVacated next next' held held' a → t ≢ a → IsRing next held t rest
    → IsRing next' held' t rest
IsRing-vacated next prev next' held held' a t rest rings left differs ring =
    let out = out_of_ring next held a t rest ring
    (only_itself next prev held a rings left.was_held left.was_alone) differs in
    let off : (u : ℕ) → 0 < times u (t ∷ rest)
    → u ≢ a = λ u some same. omega
    (arith, subst (λ (v : ℕ). 0 < times v (t ∷ rest)) same some) in
    IsRing-frame next next' held held' t rest (λ u some. left.next_others u (off u some))
    (λ u some. left.held_others u (off u some) ∙ ring.held u some) ring

pub AreRings-vacated : (next prev next' : ℕ → ℕ) (held held' : ℕ → Bool) (a : ℕ)
    → AreRings next prev held → IsVacated next next' held held' a → AreRings next' prev held'
AreRings-vacated next prev next' held held' a rings left =
    let differs : (t : ℕ) → held' t ≡ true
    → t ≢ a = λ t there same. true≢false (sym there ∙ ap held' same ∙ left.now_free) in
    record {
      back = λ t there. ap prev (left.next_others t (differs t there))
          ∙ rings.back t (sym (left.held_others t (differs t there)) ∙ there);
      ring = λ t there.
          let ring = rings.ring t (sym (left.held_others t (differs t there)) ∙ there) in (
            ring.0,
            IsRing-vacated next prev next' held held' a t ring.0 rings left
                (differs t there) ring.1,
          );
    }
