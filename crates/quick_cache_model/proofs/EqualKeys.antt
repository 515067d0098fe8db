-- Equal keys pass the same tests of equality.
use Rattle.std.proofs.Common.{◌≡◌, ◌+◌, ◌≤◌, Bool, true, false, refl, sym, ap, ◌∙◌, arith}
use Rattle.std.specs.Cmp.{IsEquivalence}
use Rattle.quick_cache_model.specs.CacheState.{CacheState, keys_by}
use Rattle.quick_cache_model.specs.Finding.{HasNoKey}
use Rattle.quick_cache_model.proofs.KeyCounts.{one, one_if}
use Rattle.quick_cache_model.proofs.Eviction.Keys.{keys_by-none}

module _ {K V : Type 0} where
  -- two tests that agree count alike
  pub keys_by-agree : (p q : K → Bool) → ((x : K) → p x ≡ q x) → (state : CacheState K V)
      → keys_by p state ≡ keys_by q state
  keys_by-agree p q agree state = let same : p ≡ q =
      λ i x. agree x i in ap (λ test. keys_by test state) same

module _ {K : Type 0} (equal : K → K → Bool) (laws : IsEquivalence equal) where
  -- whichever key is asked for, equal keys count alike
  pub equal-right : (k a b : K) → equal a b ≡ true → equal k a ≡ equal k b
  equal-right k a b same = laws.symm k a ∙ laws.congr a b k same ∙ laws.symm b k

  -- so one of two equal keys counts for the other
  pub one-equal : (k a b : K) → equal a b ≡ true → one (equal k) a ≡ one (equal k) b
  one-equal k a b same = ap one_if (equal-right k a b same)

  module _ {V : Type 0} where
    -- a key that is equal to none can be added
    pub keys_by-new : (key : K) (state : CacheState K V) → keys_by (equal key) state ≡ 0
        → ((k : K) → keys_by (equal k) state ≤ 1)
        → (k : K) → keys_by (equal k) state + one (equal k) key ≤ 1
    keys_by-new key state none single k = go (equal k key) refl
      where
        go : (b : Bool) → equal k key ≡ b → keys_by (equal k) state + one_if b ≤ 1
        go true is = omega (
          arith,
          none,
          keys_by-agree (equal k) (equal key)
              (λ x. laws.congr k key x is) state,
        )
        go false is = omega (arith, single k)

    -- a query that stands for the keys that are equal to a key finds none, so the key is new
    pub keys_by-absent : (stands_for : K → Bool) (key : K) → ((x : K) → stands_for x ≡ equal key x)
        → (state : CacheState K V)
        → HasNoKey stands_for state → keys_by (equal key) state ≡ 0
    keys_by-absent stands_for key stands state none =
        sym (keys_by-agree stands_for (equal key) stands state) ∙ keys_by-none stands_for state none
