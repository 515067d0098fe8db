-- A retain by a test that each pair passes, and an invalidation by one that each key passes.
use Rattle.std.proofs.Common.{◌≡◌, Bool, true, false, List, length, refl, ap, arith}
use Rattle.std.proofs.lemmas.List.Sorted.{length_permutation}
use Rattle.quick_cache_model.specs.CacheState.{CacheState, Item, UpToOrder, item_count}
use Rattle.quick_cache_shard.specs.Predicates.{StayAsAnswered, RetainsAsked}
use Rattle.quick_cache_locked.specs.Invalidates.{InvalidatesAsked, StaysByKey}

module _ {K V : Type 0} (answers : K → V → Bool → Type 0)
    (passes : (key : K) (value : V) (answer : Bool) → answers key value answer → answer ≡ true)
  where
    -- each item stays
    all-stay : (old new : List (Item K V)) → StayAsAnswered answers old new
        → length new ≡ length old
    all-stay _ _ StayAsAnswered.ends = refl
    all-stay _ _ (StayAsAnswered.stays item items left says stay) =
        omega (arith, all-stay items left stay)
    all-stay _ _ (StayAsAnswered.goes item items left says stay) =
        let never : false ≡ true = passes item.key item.value false says in
        absurd cc

    -- so there are as many as before
    pub as-many : (old new : CacheState K V) → UpToOrder (RetainsAsked answers old) new
        → item_count new ≡ item_count old
    as-many old new retains = omega (
      arith,
      all-stay old.hot retains.ordered.hot retains.holds.hot,
      all-stay old.cold retains.ordered.cold retains.holds.cold,
      all-stay old.still retains.ordered.still retains.holds.still,
      length_permutation retains.ordered.still new.still retains.same.still,
      ap (λ (state : CacheState K V). length state.hot) retains.same.same,
      ap (λ (state : CacheState K V). length state.cold) retains.same.same,
    )

module _ {K V : Type 0} (answers : K → Bool → Type 0)
    (passes : (key : K) (answer : Bool) → answers key answer → answer ≡ true) where
  -- each item goes
  none-stays : (old new : List (Item K V)) → StayAsAnswered (StaysByKey answers) old new
      → length new ≡ 0
  none-stays _ _ StayAsAnswered.ends = refl
  none-stays _ _ (StayAsAnswered.stays item items left says stay) =
      let never : false ≡ true = passes item.key false says in
      absurd cc
  none-stays _ _ (StayAsAnswered.goes item items left says stay) = none-stays items left stay

  -- so there is none
  pub none-left : (old new : CacheState K V) → UpToOrder (InvalidatesAsked answers old) new
      → item_count new ≡ 0
  none-left old new step = omega (
    arith,
    none-stays old.hot step.ordered.hot step.holds.hot,
    none-stays old.cold step.ordered.cold step.holds.cold,
    none-stays old.still step.ordered.still step.holds.still,
    length_permutation step.ordered.still new.still step.same.still,
    ap (λ (state : CacheState K V). length state.hot) step.same.same,
    ap (λ (state : CacheState K V). length state.cold) step.same.same,
  )
