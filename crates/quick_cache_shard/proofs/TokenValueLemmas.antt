-- The value of a token, as it is shown and as it is lent.
use Rattle.std.proofs.Common.{◌≡◌, ◌∙◌, inl, inr, ℕ, Bool, true, List, ◌∷◌, ◌++◌, Option, Some, None, MatchOption, refl, sym}
use Rattle.std.proofs.Common.{ap, subst}
use Rattle.std.specs.List.{Contains}
use Rattle.std.proofs.lemmas.List.{map-id}
use Rattle.std.proofs.lemmas.List.Elements.{Contains-append_cases}
use Rattle.quick_cache_model.specs.CacheState.{CacheState, Item, Place, InHot, InCold, InStill, items_at}
use Rattle.quick_cache_model.specs.Finding.{IsItemAt}
use Rattle.quick_cache_model.proofs.LookupLaws.{same_everywhere}
use Rattle.quick_cache_shard.specs.Shard.{Shard, IsFree, IsSoundShard, StandsAt, residents}
use Rattle.quick_cache_shard.proofs.PlaceLemmas.{Contains-image}

module _ {K V : Type 0} (test : K → Bool) (state : CacheState K V) where
  -- a resident whose key passes stands somewhere
  stands-in : {X : Type 0} (item : Item K V) → test item.key ≡ true
      → Contains (residents state) item
      → ((place : Place) (before : List (Item K V)) (after : List (Item K V))
      → IsItemAt test state place before item after → X) → X
  stands-in {X} item passes there go =
      elim (Contains-append_cases (state.hot ++ state.cold) state.still item there) [
        | inl of_rings ↦ elim (Contains-append_cases state.hot state.cold item of_rings) [
          | inl of_hot ↦ found InHot of_hot
          | inr of_cold ↦ found InCold of_cold
        ]
        | inr of_still ↦ found InStill of_still
      ]
    where
      found : (place : Place) → Contains (items_at place state) item → X
      found place in_it =
          let list = items_at place state in
          let of = Contains-image (λ (i : Item K V). i) list item
          (subst (λ (l : List (Item K V)). Contains l item) (sym (map-id list)) in_it) in
          go place of.1.before of.1.after (record {
            split = of.1.split ∙ ap (λ (i : Item K V). of.1.before ++ i ∷ of.1.after) of.2;
            passes = passes;
          })

module _ {K V We B L : Type 0} (equal : K → K → Bool) (equal_itself : (key : K) → equal key key ≡ true)
    (shard : Shard K V We B L) (sound : IsSoundShard equal shard) (token : ℕ) where
  -- a token leads to one item
  one-item : (first second : Item K V) → StandsAt shard token first
      → StandsAt shard token second → first ≡ second
  one-item first second a b =
      let same : first.key ≡ second.key = sound.places.one_key (token, first.key)
      (token, second.key) a.place b.place refl in
      stands-in (equal first.key) shard.state first (equal_itself first.key) a.there
      (λ place before after at. stands-in (equal first.key) shard.state second
      (ap (equal first.key) (sym same) ∙ equal_itself first.key) b.there
      (λ other front back also. same_everywhere (equal first.key) shard.state
      (sound.valid.one_entry_a_key first.key) place other before first after front second back at
      also))

  -- so that it shows the value that is lent by that token and out of that shard
  pub one-value : {X : Type 0} (value_of : X → V) (shown : Option X)
      → MatchOption shown (IsFree shard token)
      (λ x. (item : Item K V) × StandsAt shard token item × (value_of x ≡ item.value))
      → (lent : Shard K V We B L) (slot : ℕ) → lent ≡ shard → slot ≡ token → (value : V)
      → (item : Item K V) × StandsAt lent slot item × (value ≡ item.value)
      → (x : X) × (shown ≡ Some x) × (value_of x ≡ value)
  one-value value_of None free lent slot from by value at =
      absurd (free at.0.key (subst (λ (n : ℕ). Contains shard.places (n, at.0.key)) by
      (subst (λ (s : Shard K V We B L). Contains s.places (slot, at.0.key)) from at.1.place)))
  one-value value_of (Some x) at lent slot from by value also = (
    x,
    refl,
    at.2
        ∙ ap (λ (item : Item K V). item.value) (one-item at.0 also.0 at.1
        (subst (λ (n : ℕ). StandsAt shard n also.0) by
        (subst (λ (s : Shard K V We B L). StandsAt s slot also.0) from also.1)))
        ∙ sym also.2,
  )

  -- and none where it is free
  pub no-value : {X : Type 0} (value_of : X → V) (shown : Option X)
      → MatchOption shown (IsFree shard token)
      (λ x. (item : Item K V) × StandsAt shard token item × (value_of x ≡ item.value))
      → IsFree shard token → shown ≡ None
  no-value value_of None free also = refl
  no-value value_of (Some x) at free = absurd (free at.0.key at.1.place)
