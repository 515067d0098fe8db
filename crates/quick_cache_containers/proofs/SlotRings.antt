-- The ring of each token, as slots and links have it.
use Rattle.std.proofs.Common.{◌≡◌, ℕ, zero, suc, ◌<◌, ◌≤◌, true, false, true≢false, List, [], ◌∷◌, length, Option, None, is_some, refl, sym}
use Rattle.std.proofs.Common.{ap, ◌∙◌, inl, inr, arith}
use Rattle.std.proofs.lemmas.Bool.{cases_lt, eq-eqb}
use Rattle.std.proofs.lemmas.List.{get_or_past, ext_get_or}
use Rattle.std.proofs.lemmas.List.FromFn.{length-map-range_with_len, get_or-map-range_with_len}
use Rattle.quick_cache_containers.specs.LinkedSlab.{at_token, first_or, times, without}
use Rattle.quick_cache_containers.specs.Links.{IsRing, link_of, is_taken, ring_at, rings_of, AreLinked}
use Rattle.quick_cache_containers.proofs.TokenCounts.{times-here, length_once, without_none}
use Rattle.quick_cache_containers.proofs.OneRing.{walk_ring}

module _ {T : Type 0} where
  pub taken_within : (slots : List (Option T)) (t : ℕ) → is_taken slots t ≡ true
      → (0 < t) × (t ≤ length slots)
  taken_within slots zero taken = absurd (true≢false (sym taken))
  taken_within slots (suc i) taken =
      elim (cases_lt i (length slots)) [
        | inl below ↦ (omega arith, omega arith)
        | inr above ↦ absurd (true≢false (sym taken ∙ ap is_some (get_or_past slots i None above)))
      ]

  -- the walk from an occupied token finds its ring
  pub ring_at-is : (slots : List (Option T)) (nexts : List ℕ) (t : ℕ) (rest : List ℕ)
      → IsRing (link_of nexts) (is_taken slots) t rest → ring_at slots nexts t ≡ t ∷ rest
  ring_at-is slots nexts t rest ring =
      let taken = ring.held t (omega (arith, times-here t rest)) in
      let none : times t rest ≡ 0 = omega (arith, ring.once t, times-here t rest) in
      let short = length_once (t ∷ rest) (length slots) ring.once
      (λ u some. taken_within slots u (ring.held u some)) in
      let found = walk_ring (link_of nexts) t (length slots) rest ring.leads.1 none (omega arith) in
      rw (taken, ring.leads.0) (ap (λ xs. t ∷ xs) found)

  pub ring_at-free : (slots : List (Option T)) (nexts : List ℕ) (t : ℕ) → is_taken slots t ≡ false
      → ring_at slots nexts t ≡ []
  ring_at-free slots nexts t free = rw free

  pub length-rings_of : (slots : List (Option T)) (nexts : List ℕ)
      → length (rings_of slots nexts) ≡ length slots
  length-rings_of slots nexts = length-map-range_with_len (ring_at slots nexts) 1 (length slots)

  pub at_token-rings_of : (slots : List (Option T)) (nexts : List ℕ) (t : ℕ)
      → at_token (rings_of slots nexts) t [] ≡ ring_at slots nexts t
  at_token-rings_of slots nexts zero = refl
  at_token-rings_of slots nexts (suc i) =
      elim (cases_lt i (length slots)) [
        | inl below ↦ get_or-map-range_with_len (ring_at slots nexts) 1 (length slots) i
            (suc i) [] below (omega arith)
        | inr above ↦
            let past : is_taken slots (suc i) ≡ false =
            ap is_some (get_or_past slots i None above) in
            get_or_past (rings_of slots nexts) i [] (omega (arith, length-rings_of slots nexts))
            ∙ sym (ring_at-free slots nexts (suc i) past)
      ]

  -- a list with the ring of each token is the list of rings
  pub rings_of-is : (slots : List (Option T)) (nexts : List ℕ) (rs : List (List ℕ))
      → length rs ≡ length slots → ((t : ℕ) → 0 < t → ring_at slots nexts t ≡ at_token rs t [])
      → rings_of slots nexts ≡ rs
  rings_of-is slots nexts rs long each =
      ext_get_or [] (rings_of slots nexts) rs (length-rings_of slots nexts ∙ sym long)
      (λ i below. at_token-rings_of slots nexts (suc i) ∙ each (suc i) (omega arith))

  pub successor-is : (slots : List (Option T)) (nexts prevs : List ℕ) (t : ℕ)
      → AreLinked slots nexts prevs → is_taken slots t ≡ true
      → first_or t (without t (ring_at slots nexts t)) ≡ link_of nexts t
  successor-is slots nexts prevs t linked taken =
      let ring = linked.rings.ring t taken in
      let none : times t ring.0 ≡ 0 = omega (arith, ring.1.once t, times-here t ring.0) in
      rw (ring_at-is slots nexts t ring.0 ring.1, eq-eqb t t refl, without_none t ring.0 none)
      (sym ring.1.leads.0)
