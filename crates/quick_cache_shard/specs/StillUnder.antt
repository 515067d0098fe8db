-- An item that has another value is still there.
use Rattle.std.specs.Prelude.{◌≡◌, ℕ, ◌+◌, ◌<◌, Bool, true, false, List, [], ◌∷◌, map, count_by, if◌then◌else◌}
use Rattle.std.proofs.Common.{refl, subst, sym, cond, ◌∙◌}
use Rattle.std.proofs.lemmas.List.Sums.{sum_by-cons}
use Rattle.quick_cache_model.specs.CacheState.{CacheState, Item}
use Rattle.quick_cache_policy.specs.References.{count_under, valued, with_value_under}

module _ {K V : Type 0} (stands_for : K → Bool) where
  -- one for an item that the query stands for
  abbrev counted : Item K V → ℕ
  counted item = cond (stands_for item.key) 1 0

  -- items with another value count as before
  valued-count : (value : V) (items : List (Item K V))
      → count_by (λ item. stands_for item.key) (map (valued stands_for value) items)
      ≡ count_by (λ item. stands_for item.key) items
  valued-count value [] = refl
  valued-count value (x ∷ xs) =
      sum_by-cons counted (valued stands_for value x) (map (valued stands_for value) xs)
      ∙ (λ i. cond (stands_for (same (stands_for x.key) i)) 1 0 + valued-count value xs i)
      ∙ sym (sum_by-cons counted x xs)
    where
      same : (b : Bool) → (if b then record x { value = value } else x).key ≡ x.key
      same true = refl
      same false = refl

  -- an item that has another value is there
  pub still_under : (value : V) (state : CacheState K V) → 0 < count_under stands_for state
      → 0 < count_under stands_for (with_value_under stands_for value state)
  still_under value state some = subst (λ n. 0 < n)
      (λ i. sym (valued-count value state.hot) i + sym (valued-count value state.cold) i
      + sym (valued-count value state.still) i) some
