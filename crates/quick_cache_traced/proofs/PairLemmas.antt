-- The item that a walk meets first behind the token before its own.
use Rattle.std.proofs.Common.{◌≡◌, ℕ, ◌+◌, Bool, true, List, [], ◌∷◌, ◌++◌, Option, Some, None, MatchOption, inl, inr, sym, ap, subst, ◌∙◌}
use Rattle.std.proofs.Common.{arith}
use Rattle.std.specs.List.{Contains}
use Rattle.std.specs.Int.NonZero.{non_zero_u32_get}
use Rattle.std.specs.declared.num.NonZeroU32.{NonZeroU32 as Token}
use Rattle.std.proofs.lemmas.List.Elements.{Contains-append_cases, Contains-push_cases}
use denote.Ref.{Bor}
use Rattle.quick_cache_model.specs.CacheState.{CacheState, Item, InHot, InCold, InStill}
use Rattle.quick_cache_model.specs.Lookups.{Sees}
use Rattle.quick_cache_model.specs.Removal.{pair_of}
use Rattle.quick_cache_store.specs.Lists.{number_or_zero}
use Rattle.quick_cache_shard.specs.PlaceWalks.{IsNextPlace, EndsAt, ArePlaces}
use Rattle.quick_cache_shard.specs.Shard.{residents}
use Rattle.quick_cache_shard.specs.WalksFrom.{WalkFrom, ShowsNext}

module _ {X : Type 0} where
  -- an element stands between a front and a rest
  cut : (xs : List X) (x : X) → Contains xs x
      → (before : List X) × (after : List X) × (xs ≡ before ++ x ∷ after)
  cut [] x there = let within = there.1 in absurd (omega (arith, within))
  cut (y ∷ ys) x there = elim (Contains-append_cases (y ∷ []) ys x there) [
    | inl of_one ↦ elim (Contains-push_cases [] y x of_one) [
      | inl of_none ↦ let within = of_none.1 in absurd (omega (arith, within))
      | inr is ↦ ([], ys, ap (λ (first : X). first ∷ ys) is)
    ]
    | inr of_rest ↦
        let on = cut ys x of_rest in (y ∷ on.0, on.1, ap (λ (rest : List X). y ∷ rest) on.2)
  ]

module _ {K V : Type 0} (stands_for : K → Bool) (state : CacheState K V) (item : Item K V)
    (passes : stands_for item.key ≡ true) where
  -- an item whose key the query stands for is what a look sees
  pub Sees-resident : Contains (residents state) item → Sees stands_for state pair_of
      (Some (pair_of item))
  Sees-resident there = elim (Contains-append_cases (state.hot ++ state.cold) state.still item
      there) [
        | inl of_rings ↦ elim (Contains-append_cases state.hot state.cold item of_rings) [
          | inl hot ↦ let at = cut state.hot item hot in
              Sees.is_there InHot at.0 item at.1 (record { split = at.2; passes = passes })
          | inr cold ↦ let at = cut state.cold item cold in
              Sees.is_there InCold at.0 item at.1 (record { split = at.2; passes = passes })
        ]
        | inr still ↦ let at = cut state.still item still in
            Sees.is_there InStill at.0 item at.1 (record { split = at.2; passes = passes })
      ]

-- the number of a token that may be there, where it was made of that number
pub number_of : (token : Option Token) (n : ℕ)
    → MatchOption token (n ≡ 0) (λ made. non_zero_u32_get made ≡ n) → number_or_zero token ≡ n
number_of None n is = sym is
number_of (Some token) n is = is

module _ {K V : Type 0} (equal : K → K → Bool) (places : List (ℕ × K)) (after token : ℕ) (key : K)
    (before : after + 1 ≡ token) (there : Contains places (token, key)) (walk : WalkFrom K V)
    (same_places : walk.places ≡ places) (same_after : walk.after ≡ after) where
  -- a walk from the token before does not end
  pub never_ends : EndsAt walk.places walk.after → ⊥
  never_ends ends =
      let within = ends (token, key)
      (subst (λ all. Contains all (token, key)) (sym same_places) there) in
      omega (arith, within, before, same_after)

  -- the place that it comes to first is that of the token
  next_key : ArePlaces equal places → (place : ℕ × K) → IsNextPlace walk.places walk.after place
      → place.1 ≡ key
  next_key are place next =
      let least = next.least (token, key)
      (subst (λ all. Contains all (token, key)) (sym same_places) there)
      (omega (arith, before, same_after)) in
      let above = next.above in
      are.one_key place (token, key)
      (subst (λ all. Contains all place) same_places next.there) there
      (omega (arith, least, above, before, same_after))

  -- so what it shows is the pair that a look at the key sees
  pub Sees-next : ArePlaces equal places → (stands_for : K → Bool) (state : CacheState K V)
      → walk.residents ≡ residents state → stands_for key ≡ true
      → (given : Token × Bor K × Bor V) (new : WalkFrom K V) → ShowsNext walk given new
      → Sees stands_for state pair_of (Some (given.1.now, given.2.now))
  Sees-next are stands_for state same_residents passes given new shows =
      subst (λ pair. Sees stands_for state pair_of (Some pair))
      (λ i. (sym shows.key i, sym shows.value i))
      (Sees-resident stands_for state shows.item
      (ap stands_for (next_key are (non_zero_u32_get given.0, shows.item.key) shows.next) ∙ passes)
      (subst (λ all. Contains all shows.item) same_residents shows.there))
