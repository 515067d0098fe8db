-- The key that stands at a token, and its item.
use Rattle.std.proofs.Common.{◌≡◌, ℕ, Bool, true, List, [], ◌∷◌, Some, is_some, refl, ap, subst, ◌∙◌, inl, inr, arith}
use Rattle.std.specs.List.{Contains}
use Rattle.std.proofs.lemmas.Bool.{cases_eq, eq-eqb, ne_eqb}
use Rattle.quick_cache_store.specs.Lists.{Lists, AreApart, FindsItemOfAnyHash, HasItem}
use Rattle.quick_cache_policy.specs.Places.{places_of}
use Rattle.quick_cache_policy.proofs.WrittenPlaces.{Contains-first, Contains-later, Contains-cons_cases}
use Rattle.quick_cache_shard.specs.TokenValues.{key_at}
use Rattle.quick_cache_shard.proofs.PlaceLemmas.{place-held, place-same}

-- where a token has one key, that is the one that is found
key_at-only : {K : Type 0} (token : ℕ) (key : K) (places : List (ℕ × K))
    → ((other : K) → Contains places (token, other) → other ≡ key)
    → Contains places (token, key) → key_at token places ≡ Some key
key_at-only token key [] only there = absurd (omega (arith, there.1))
key_at-only {K} token key (place ∷ places) only there = elim (cases_eq place.0 token) [
  | inl same ↦ rw (eq-eqb place.0 token same) (ap (λ (k : K). Some k) (only place.1
      (subst (λ (t : ℕ). Contains (place ∷ places) (t, place.1)) same
      (Contains-first place places))))
  | inr other ↦ rw (ne_eqb place.0 token other) (key_at-only token key places
      (λ o also. only o (Contains-later place places (token, o) also))
      (elim (Contains-cons_cases place places (token, key) there) [
        | inl is ↦ absurd (other (ap (λ (p : ℕ × K). p.0) is))
        | inr rest ↦ rest
      ]))
]

-- a token at which there is a key
pub key_at-some : {K : Type 0} (token : ℕ) (places : List (ℕ × K))
    → is_some (key_at token places) ≡ true → (key : K) × Contains places (token, key)
key_at-some token [] some = absurd (cc)
key_at-some {K} token (place ∷ places) some = elim (cases_eq place.0 token) [
  | inl same ↦ (
    place.1,
    subst (λ (t : ℕ). Contains (place ∷ places) (t, place.1)) same (Contains-first place places),
  )
  | inr other ↦
      let rest = key_at-some token places (rw (ne_eqb place.0 token other) at some) in
      (rest.0, Contains-later place places (token, rest.0) rest.1)
]

-- and back
pub some-key_at : {K : Type 0} (token : ℕ) (key : K) (places : List (ℕ × K))
    → Contains places (token, key) → is_some (key_at token places) ≡ true
some-key_at token key [] there = absurd (omega (arith, there.1))
some-key_at {K} token key (place ∷ places) there = elim (cases_eq place.0 token) [
  | inl same ↦ rw (eq-eqb place.0 token same) refl
  | inr other ↦ rw (ne_eqb place.0 token other) (some-key_at token key places
      (elim (Contains-cons_cases place places (token, key) there) [
        | inl is ↦ absurd (other (ap (λ (p : ℕ × K). p.0) is))
        | inr rest ↦ rest
      ]))
]

module _ {K V P : Type 0} (lists : Lists K V P) (token : ℕ) (key : K)
    (there : Contains (places_of lists) (token, key)) where
  -- the key of the item of a token is the one at it
  pub key_at-there : AreApart lists → key_at token (places_of lists) ≡ Some key
  key_at-there apart = key_at-only token key (places_of lists)
      (λ other also. place-same lists apart (token, other) (token, key) also there (λ i. token))
      there

  -- and the item is found under each query that stands for that key
  pub found-at : (stands_for : K → Bool) → stands_for key ≡ true
      → FindsItemOfAnyHash stands_for lists token
  found-at stands_for passes =
      let of = place-held lists (token, key) there in (
        of.0.hash,
        record {
          item = of.0.item;
          stands = subst (λ (t : ℕ). HasItem lists
              (record { token = t; hash = of.0.hash; item = of.0.item }))
              (ap (λ (p : ℕ × K). p.0) of.2) of.1;
          passes = ap stands_for (ap (λ (p : ℕ × K). p.1) of.2) ∙ passes;
        },
      )
