-- What is shown of an item, taken out and lent is one.
use Rattle.std.proofs.Common.{◌≡◌, ◌≤◌, ℕ, Bool, List, ◌∷◌, Option, Some, None, MatchOption, is_some, refl, sym}
use Rattle.std.proofs.Common.{ap, subst}
use Rattle.std.proofs.lemmas.List.Sorted.{Contains-permutation, IsPermutation-sym}
use Rattle.quick_cache_model.specs.CacheState.{CacheState, Item, Place, keys_by}
use Rattle.quick_cache_model.specs.Finding.{IsItemAt, HasNoItem}
use Rattle.quick_cache_model.specs.Lookups.{Sees}
use Rattle.quick_cache_model.proofs.LookupLaws.{not_both}
use Rattle.quick_cache_policy.specs.References.{IsValueUnder}
use Rattle.quick_cache_shard.specs.Shard.{Shard, IsFree, LeavesPlace, StandsAt}
use Rattle.quick_cache_shard.proofs.PlaceLemmas.{Contains-first}

module _ {K V : Type 0} (test : K → Bool) (state : CacheState K V) (single : keys_by test state ≤ 1)
  where
    -- a value that is shown is the one that is lent, by that query and out of that state
    pub lent-shown : (shown : Option V) → Sees test state (λ item. item.value) shown
        → (lent_test : K → Bool) (lent : CacheState K V) → lent_test ≡ test → lent ≡ state
        → (value : V) → IsValueUnder lent_test lent value
        → (place : Place) (before : List (Item K V)) (item : Item K V) (after : List (Item K V))
        → IsItemAt lent_test lent place before item after → shown ≡ Some value
    lent-shown shown sees lent_test lent by from value is place before item after at =
        go shown sees
        (subst (λ (t : K → Bool). IsValueUnder t state value) by
        (subst (λ (s : CacheState K V). IsValueUnder lent_test s value) from is))
        (subst (λ (t : K → Bool). IsItemAt t state place before item after) by
        (subst (λ (s : CacheState K V). IsItemAt lent_test s place before item after) from at))
      where
        go : (shown : Option V) → Sees test state (λ item. item.value) shown
            → IsValueUnder test state value → IsItemAt test state place before item after
            → shown ≡ Some value
        go _ (Sees.is_there other front it back there) under stands =
            ap (λ (v : V). Some v) (sym (under other front it back there))
        go _ (Sees.is_absent none) under stands =
            absurd (not_both test state single place before item after stands none)

    -- and where none stands, none is shown
    pub none-shown : (shown : Option V) → Sees test state (λ item. item.value) shown
        → HasNoItem test state → shown ≡ None
    none-shown _ (Sees.is_there place before item after at) none =
        absurd (not_both test state single place before item after at none)
    none-shown _ (Sees.is_absent none) also = refl

module _ {K V We B L : Type 0} (shard : Shard K V We B L) (token : ℕ) where
  -- a free token leads to no item
  free-none : {X : Type 0} → IsFree shard token → (item : Item K V) → StandsAt shard token item → X
  free-none free item at = absurd (free item.key at.place)

  -- a token shows a value where a pair is taken out under it
  pub shown-taken : {X : Type 0} (value_of : X → V) (shown : Option X) (taken : Option (K × V))
      (new : Shard K V We B L)
      → MatchOption shown (IsFree shard token)
      (λ x. (item : Item K V) × StandsAt shard token item × (value_of x ≡ item.value))
      → MatchOption taken (IsFree shard token × (new ≡ shard))
      (λ pair. LeavesPlace shard token pair.0 new)
      → is_some shown ≡ is_some taken
  shown-taken value_of None None new free also = refl
  shown-taken value_of None (Some pair) new free leaves =
      absurd (free pair.0 (Contains-permutation ((token, pair.0) ∷ new.places) shard.places
      (token, pair.0) (IsPermutation-sym shard.places ((token, pair.0) ∷ new.places) leaves)
      (Contains-first (token, pair.0) new.places)))
  shown-taken value_of (Some x) None new at free = free-none free.0 at.0 at.1
  shown-taken value_of (Some x) (Some pair) new at leaves = refl
