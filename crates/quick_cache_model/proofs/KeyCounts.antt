-- How many items of a list have a key that passes a test.
use Rattle.std.proofs.Common.{◌≡◌, ℕ, ◌+◌, ◌≤◌, Bool, true, false, cond, List, [], ◌∷◌, ◌++◌, map, refl, ap, ◌∙◌, arith}
use Rattle.std.specs.List.{AllByRecursion, count_by}
use Rattle.std.proofs.lemmas.List.Sums.{sum_by-append, sum_by-cons}
use Rattle.quick_cache_model.specs.CacheState.{CacheState, Item, LoadingEntry, keys_by}
use Rattle.quick_cache_model.specs.Eviction.{lowered}
use Rattle.quick_cache_model.specs.Touches.{RaisesMarks}
use Rattle.quick_cache_model.proofs.TouchLaws.{with_touches-key}

-- one for a test that passed
abbrev pub one_if : Bool → ℕ
one_if passed = cond passed 1 0

-- and nothing only for a test that failed
pub false-from_one_if : (passed : Bool) → one_if passed ≡ 0 → passed ≡ false
false-from_one_if true e = absurd (omega (arith, e))
false-from_one_if false e = refl

module _ {K : Type 0} (test : K → Bool) where
  -- one for a key that passes
  abbrev pub one : K → ℕ
  one k = one_if (test k)

module _ {K V : Type 0} (test : K → Bool) where
  -- how many items have a key that passes
  abbrev pub keys : List (Item K V) → ℕ
  keys items = count_by (λ item. test item.key) items

  -- the first item counts where its key passes
  pub keys-cons : (item : Item K V) (items : List (Item K V))
      → keys (item ∷ items) ≡ one test item.key + keys items
  keys-cons item items = sum_by-cons (λ (x : Item K V). cond (test x.key) 1 0) item items

  -- two lists, one behind the other
  pub keys-append : (xs ys : List (Item K V)) → keys (xs ++ ys) ≡ keys xs + keys ys
  keys-append xs ys = sum_by-append (λ (x : Item K V). cond (test x.key) 1 0) xs ys

  -- an item between two lists
  pub keys-split : (before : List (Item K V)) (item : Item K V) (after : List (Item K V))
      → keys (before ++ item ∷ after) ≡ keys before + (one test item.key + keys after)
  keys-split before item after =
      omega (arith, keys-append before (item ∷ after), keys-cons item after)

  -- lowered marks change no key
  pub keys-lowered : (n : ℕ) (items : List (Item K V)) → keys (map (lowered n) items) ≡ keys items
  keys-lowered n [] = refl
  keys-lowered n (x ∷ xs) = omega
      (arith, keys-cons (lowered n x) (map (lowered n) xs), keys-cons x xs, keys-lowered n xs)

  -- nor do touches
  pub keys-raised : (cut : ℕ) (may_count : ℕ → Type 0) (old new : List (Item K V))
      → RaisesMarks cut may_count old new → keys new ≡ keys old
  keys-raised cut may_count [] [] raised = refl
  keys-raised cut may_count [] (y ∷ ys) raised = absurd raised
  keys-raised cut may_count (x ∷ xs) [] raised = absurd raised
  keys-raised cut may_count (x ∷ xs) (y ∷ ys) raised =
      let same : y.key ≡ x.key = ap (λ (i : Item K V). i.key) raised.0.2
      ∙ with_touches-key cut raised.0.0 x in
      omega (
        arith,
        keys-cons x xs,
        keys-cons y ys,
        ap
            (one test) same,
        keys-raised cut may_count xs ys raised.1,
      )

  -- no key passes where each fails
  pub keys-none : (items : List (Item K V)) → AllByRecursion (λ item. test item.key ≡ false) items
      → keys items ≡ 0
  keys-none [] fail = refl
  keys-none (x ∷ xs) fail = omega (arith, keys-cons x xs, ap one_if fail.0, keys-none xs fail.1)

  -- each fails where no key passes
  pub none-from_keys : (items : List (Item K V)) → keys items ≡ 0
      → AllByRecursion (λ item. test item.key ≡ false) items
  none-from_keys [] e = tt
  none-from_keys (x ∷ xs) e = (
    false-from_one_if (test x.key)
        (omega (arith, e, keys-cons x xs)),
    none-from_keys xs (omega (arith, e, keys-cons x xs)),
  )

  -- an item whose key passes counts
  pub keys-passes : (before : List (Item K V)) (item : Item K V) (after : List (Item K V))
      → test item.key ≡ true
      → keys (before ++ item ∷ after) ≡ keys before + (1 + keys after)
  keys-passes before item after passes =
      omega (arith, keys-split before item after, ap one_if passes)

module _ {K : Type 0} (test : K → Bool) where
  -- how many loading entries have a key that passes
  abbrev pub loading_keys : List (LoadingEntry K) → ℕ
  loading_keys entries = count_by (λ entry. test entry.key) entries

  -- the first entry counts where its key passes
  pub loading_keys-cons : (entry : LoadingEntry K) (entries : List (LoadingEntry K))
      → loading_keys (entry ∷ entries) ≡ one test entry.key + loading_keys entries
  loading_keys-cons entry entries =
      sum_by-cons (λ (x : LoadingEntry K). cond (test x.key) 1 0) entry entries

  -- two lists of entries, one behind the other
  pub loading_keys-append : (xs ys : List (LoadingEntry K))
      → loading_keys (xs ++ ys) ≡ loading_keys xs + loading_keys ys
  loading_keys-append xs ys = sum_by-append (λ (x : LoadingEntry K). cond (test x.key) 1 0) xs ys

  -- an entry between two lists
  pub loading_keys-split : (before : List (LoadingEntry K)) (entry : LoadingEntry K)
      (after : List (LoadingEntry K))
      → loading_keys (before ++ entry ∷ after)
      ≡ loading_keys before + (one test entry.key + loading_keys after)
  loading_keys-split before entry after =
      omega (arith, loading_keys-append before (entry ∷ after), loading_keys-cons entry after)

  -- no entry counts where each key fails
  pub loading_keys-none : (entries : List (LoadingEntry K))
      → AllByRecursion (λ entry. test entry.key ≡ false) entries → loading_keys entries ≡ 0
  loading_keys-none [] fail = refl
  loading_keys-none (x ∷ xs) fail =
      omega (arith, loading_keys-cons x xs, ap one_if fail.0, loading_keys-none xs fail.1)

  -- each key fails where no entry counts
  pub loading_none-from_keys : (entries : List (LoadingEntry K)) → loading_keys entries ≡ 0
      → AllByRecursion (λ entry. test entry.key ≡ false) entries
  loading_none-from_keys [] e = tt
  loading_none-from_keys (x ∷ xs) e = (
    false-from_one_if (test x.key)
        (omega (arith, e, loading_keys-cons x xs)),
    loading_none-from_keys xs
        (omega (arith, e, loading_keys-cons x xs)),
  )

module _ {K : Type 0} (few many : K → Bool) (more : (k : K) → few k ≡ true → many k ≡ true) where
  -- what passes the one test passes the other, and counts there too
  one-fewer : (k : K) → one few k ≤ one many k
  one-fewer k = go (few k) refl
    where
      go : (b : Bool) → few k ≡ b → one_if b ≤ one many k
      go true is = omega (arith, ap one_if (more k is))
      go false is = omega arith

  -- so of the items of a list
  keys-fewer : {V : Type 0} (items : List (Item K V)) → keys few items ≤ keys many items
  keys-fewer [] = omega arith
  keys-fewer (x ∷ xs) =
      omega (arith, keys-cons few x xs, keys-cons many x xs, one-fewer x.key, keys-fewer xs)

  -- of the loading entries
  loading_keys-fewer : (entries : List (LoadingEntry K))
      → loading_keys few entries ≤ loading_keys many entries
  loading_keys-fewer [] = omega arith
  loading_keys-fewer (x ∷ xs) =
      omega (
        arith,
        loading_keys-cons few x xs,
        loading_keys-cons many x xs,
        one-fewer x.key,
        loading_keys-fewer xs,
      )

  -- and of a state
  pub keys_by-fewer : {V : Type 0} (state : CacheState K V) → keys_by few state ≤ keys_by many state
  keys_by-fewer state =
      omega (
        arith,
        keys-fewer state.hot,
        keys-fewer state.cold,
        keys-fewer state.still,
        loading_keys-fewer state.loading,
      )
