-- A key that stays is given once by a walk.
use Rattle.std.proofs.Common.{◌≡◌, ◌⊎◌, inl, inr, ℕ, ◌+◌, ◌<◌, ◌≤◌, Bool, true, false, cond, List, ◌∷◌, refl, sym, ap, ◌∙◌, arith}
use Rattle.std.specs.Cmp.{IsEquivalence}
use Rattle.std.specs.List.{Contains, count_by}
use Rattle.std.proofs.lemmas.Bool.{cases_lt}
use Rattle.std.proofs.lemmas.List.Sums.{sum_by-cons}
use Rattle.quick_cache_shard.specs.PlaceWalks.{HasKey, WalksBy, GivesOnce}

module _ {K : Type 0} (equal : K → K → Bool) (laws : IsEquivalence equal) (key : K) where
  -- how many of these are of the key
  abbrev given_of : List (ℕ × K) → ℕ
  given_of given = count_by (λ place. equal key place.1) given

  given_of-cons : (place : ℕ × K) (given : List (ℕ × K))
      → given_of (place ∷ given) ≡ cond (equal key place.1) 1 0 + given_of given
  given_of-cons place given = sum_by-cons (λ (p : ℕ × K). cond (equal key p.1) 1 0) place given

  -- two keys that are equal to the key are equal
  both : (a b : K) → equal key a ≡ true → equal key b ≡ true → equal a b ≡ true
  both a b of_a of_b = sym (laws.congr key a b of_a) ∙ of_b

  -- the key is there where a walk begins
  has_key : (now : List (ℕ × K)) (after : ℕ) (given : List (ℕ × K))
      → WalksBy equal key now after given → HasKey equal key now
  has_key _ _ _ (WalksBy.ends now after has end) = has
  has_key _ _ _ (WalksBy.gives now after place given has next rest) = has
  has_key _ _ _ (WalksBy.steps now next after given has keeps rest) = has

  -- in one state it stands at one token
  one_token : (now : List (ℕ × K)) → (has : HasKey equal key now) → (place : ℕ × K)
      → Contains now place → equal key place.1 ≡ true → place.0 ≡ has.place.0
  one_token now has place there is =
      has.are_places.one_token has.place place has.there there (both _ _ has.is is)

  -- behind its token it is not given again, and before it is given once
  pub given_times : (now : List (ℕ × K)) (after : ℕ) (given : List (ℕ × K))
      → WalksBy equal key now after given → (has : HasKey equal key now)
      → (has.place.0 ≤ after → given_of given ≡ 0) × (after < has.place.0 → given_of given ≡ 1)
  given_times _ _ _ (WalksBy.ends now after _ end) has = (
    λ behind. refl,
    λ before. let last = end has.place has.there in absurd (omega (arith, before, last)),
  )
  given_times _ _ _ (WalksBy.gives now after place given _ next rest) has =
      let later_on = given_times now place.0 given rest has in
      let above = next.above in (
        λ behind.
            let other : equal key place.1 ≡ false = elim (cases_is (equal key place.1)) [
              | inl is ↦ let same = one_token now has place next.there is in
                  absurd (omega (arith, above, behind, same))
              | inr not ↦ not
            ] in
            omega (
              arith,
              given_of-cons place given ∙ ap (λ b. cond b 1 0 + given_of given) other,
              later_on.0 (omega (arith, above, behind)),
            ),
        λ before.
            let least = next.least has.place has.there before in
            elim (cases_lt place.0 has.place.0) [
              | inl short ↦
                  let other : equal key place.1 ≡ false = elim (cases_is (equal key place.1)) [
                    | inl is ↦ let same = one_token now has place next.there is in
                        absurd (omega (arith, short, same))
                    | inr not ↦ not
                  ] in
                  omega (
                    arith,
                    given_of-cons place given ∙ ap (λ b. cond b 1 0 + given_of given) other,
                    later_on.1 short,
                  )
              | inr reached ↦
                  let same : place.0 ≡ has.place.0 = omega (arith, least, reached) in
                  let is : equal key place.1 ≡ true =
                  ap (equal key) (has.are_places.one_key place has.place next.there has.there same)
                  ∙ has.is in
                  omega (
                    arith,
                    given_of-cons place given ∙ ap (λ b. cond b 1 0 + given_of given) is,
                    later_on.0 reached,
                  )
            ],
      )
    where
      cases_is : (b : Bool) → (b ≡ true) ⊎ (b ≡ false)
      cases_is true = inl refl
      cases_is false = inr refl
  given_times _ _ _ (WalksBy.steps now next after given _ keeps rest) has =
      let later = has_key next after given rest in
      let same = keeps has.place later.place has.there later.there (both _ _ has.is later.is) in
      let later_on = given_times next after given rest later in (
        λ behind. later_on.0 (omega (arith, same, behind)),
        λ before. later_on.1 (omega (arith, same, before)),
      )

  -- so a whole walk gives it once
  pub gives-once : GivesOnce equal key
  gives-once now given has some walk = (given_times now 0 given walk has).1 some
