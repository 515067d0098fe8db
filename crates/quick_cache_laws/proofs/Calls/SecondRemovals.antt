-- Laws of removals: a second one finds nothing to remove.
use Rattle.std.proofs.Common.{◌≡◌, ℕ, Bool, true, false, cond, List, [], ◌∷◌, Option, None, refl, IsPermutation, sym, ap, subst, ◌∙◌, arith}
use Rattle.std.specs.List.{AllByRecursion, filter}
use Rattle.quick_cache_model.specs.CacheState.{CacheState, Item, Place, InHot, InCold, InStill, keys_by, IsValid, SameButOrder, UpToOrder}
use Rattle.quick_cache_model.specs.Finding.{IsItemAt}
use Rattle.quick_cache_model.specs.Removal.{Removes, Retains, retained}
use Rattle.quick_cache_laws.specs.Laws.{IsQuery}
use Rattle.quick_cache_model.proofs.KeyCounts.{one_if}
use Rattle.quick_cache_model.proofs.Eviction.Keys.{keys_by-none}
use Rattle.quick_cache_model.proofs.Valid.Places.{keys_by-without}
use Rattle.quick_cache_model.proofs.OrderLaws.{SameButOrder-keys}
use Rattle.quick_cache_model.proofs.EachElement.{all-permutation}
use Rattle.quick_cache_model.proofs.LookupLaws.{at_least}
use Rattle.quick_cache_laws.proofs.Calls.Queries.{keys_by-query}
use Rattle.quick_cache_model.proofs.Valid.Edits.{keys_by-unloaded}

module _ {K V : Type 0} (equal : K → K → Bool) (stands_for : K → Bool)
    (query : IsQuery equal stands_for) where
  -- a removal leaves no key for which the query stands
  pub Removes-keys : (hash : ℕ) (old new : CacheState K V) (answer : Option (K × V))
      → Removes stands_for old hash answer new → IsValid equal old
      → keys_by stands_for new ≡ 0
  Removes-keys hash old _ _ (Removes.of_item place before item after there) valid =
      omega (
        arith,
        keys_by-query equal stands_for query old valid,
        keys_by-without stands_for place
            before item after old there.split,
        ap one_if there.passes,
      )
  Removes-keys hash old _ _ (Removes.of_loading before entry after there) valid =
      omega (
        arith,
        keys_by-query equal stands_for query old valid,
        keys_by-unloaded stands_for
            before entry after old there.split,
        ap one_if there.passes,
      )
  Removes-keys hash old _ _ (Removes.of_ghost before after there) valid =
      omega (arith, keys_by-none stands_for old there.keys)
  Removes-keys hash old _ _ (Removes.of_nothing nothing) valid =
      keys_by-none stands_for old nothing.keys

  -- where there is none, a removal gives nothing
  none_to_give : (hash : ℕ) (old new : CacheState K V) (answer : Option (K × V))
      → keys_by stands_for old ≡ 0 → Removes stands_for old hash answer new → answer ≡ None
  none_to_give hash old _ _ none (Removes.of_item place before item after there) =
      absurd (counted place there)
    where
      counted : (p : Place) → IsItemAt stands_for old p before item after → ⊥
      counted InHot at = omega (
        arith,
        none,
        at_least stands_for old (omega (arith, none))
            InHot before item after at,
      )
      counted InCold at = omega (
        arith,
        none,
        at_least stands_for old (omega (arith, none))
            InCold before item after at,
      )
      counted InStill at = omega (
        arith,
        none,
        at_least stands_for old (omega (arith, none))
            InStill before item after at,
      )
  none_to_give hash old _ _ none (Removes.of_loading before entry after there) = refl
  none_to_give hash old _ _ none (Removes.of_ghost before after there) = refl
  none_to_give hash old _ _ none (Removes.of_nothing nothing) = refl

  -- so a second removal gives nothing, whatever order the first left
  pub Removes-second : (hash : ℕ) (old mid new : CacheState K V) (first second : Option (K × V))
      → IsValid equal old
      → UpToOrder (λ state. Removes stands_for old hash first state) mid
      → UpToOrder (λ state. Removes stands_for mid hash second state) new
      → second ≡ None
  Removes-second hash old mid new first second valid removes again =
      none_to_give hash mid again.ordered second
      (SameButOrder-keys stands_for removes.ordered mid removes.same
      ∙ Removes-keys hash old removes.ordered first removes.holds valid)
      again.holds

module _ {X : Type 0} (test : X → Bool) where
  -- what passes a test passes it again
  filter-pass : (x : X) (xs : List X) → test x ≡ true → filter test (x ∷ xs) ≡ x ∷ filter test xs
  filter-pass x xs passes = ap (λ b. cond b (x ∷ filter test xs) (filter test xs)) passes

  -- a second filter by the same test keeps what the first kept
  pub filter-filter : (xs : List X) → filter test (filter test xs) ≡ filter test xs
  filter-filter [] = refl
  filter-filter (x ∷ xs) = go (test x) refl (filter-filter xs)
    where
      go : (b : Bool) → test x ≡ b → filter test (filter test xs) ≡ filter test xs
          → filter test (cond b (x ∷ filter test xs) (filter test xs)) ≡ cond b (x ∷ filter test xs)
          (filter test xs)
      go true passes same = filter-pass x (filter test xs) passes ∙ ap (λ l. x ∷ l) same
      go false fails same = same

  -- what a filter keeps passes
  passes-filter : (xs : List X) → AllByRecursion (λ x. test x ≡ true) (filter test xs)
  passes-filter [] = tt
  passes-filter (x ∷ xs) = go (test x) refl (passes-filter xs)
    where
      go : (b : Bool) → test x ≡ b → AllByRecursion (λ x. test x ≡ true) (filter test xs)
          → AllByRecursion (λ x. test x ≡ true) (cond b (x ∷ filter test xs) (filter test xs))
      go true passes rest = (passes, rest)
      go false fails rest = rest

  -- a filter keeps all that pass
  filter-passing : (xs : List X) → AllByRecursion (λ x. test x ≡ true) xs → filter test xs ≡ xs
  filter-passing [] all = refl
  filter-passing (x ∷ xs) all =
      filter-pass x xs all.0 ∙ ap (λ l. x ∷ l) (filter-passing xs all.1)

  -- so it keeps all that it kept before, in whatever order
  pub filter-reordered : (xs ys : List X) → IsPermutation (filter test xs) ys → filter test ys ≡ ys
  filter-reordered xs ys order =
      filter-passing ys (all-permutation (λ x. test x ≡ true) (filter test xs) ys order
      (passes-filter xs))

-- a second retain by the same test removes nothing, whatever order the first left
pub Retains-second : {K V : Type 0} (keeps : K → V → Bool) (old mid new : CacheState K V)
    → UpToOrder (λ state. Retains keeps old state) mid
    → UpToOrder (λ state. Retains keeps mid state) new → SameButOrder mid new
Retains-second {K} {V} keeps old mid new first second =
    subst (λ (s : CacheState K V). SameButOrder s new) (second.holds ∙ keeps_all) second.same
  where
    -- what the first left, but for the order of what has none
    left : mid ≡ record old {
      hot = retained keeps old.hot;
      cold = retained keeps old.cold;
      still = mid.still;
      loading = mid.loading;
    }
    left = first.same.same
        ∙ ap (λ (s : CacheState K V). record s { still = mid.still; loading = mid.loading })
        first.holds

    hot : mid.hot ≡ retained keeps old.hot
    hot = ap (λ (s : CacheState K V). s.hot) left

    cold : mid.cold ≡ retained keeps old.cold
    cold = ap (λ (s : CacheState K V). s.cold) left

    still : IsPermutation (retained keeps old.still) mid.still
    still = subst (λ (l : List (Item K V)). IsPermutation l mid.still)
        (ap (λ (s : CacheState K V). s.still) first.holds) first.same.still

    keeps_all : record mid {
      hot = retained keeps mid.hot;
      cold = retained keeps mid.cold;
      still = retained keeps mid.still;
    } ≡ mid
    keeps_all i = record mid {
      hot = (ap (retained keeps) hot ∙ filter-filter (λ (x : Item K V). keeps x.key x.value) old.hot
          ∙ sym hot) i;
      cold = (ap (retained keeps) cold
          ∙ filter-filter (λ (x : Item K V). keeps x.key x.value) old.cold ∙ sym cold) i;
      still = filter-reordered (λ (x : Item K V). keeps x.key x.value) old.still mid.still still i;
    }
