-- Purges that take nothing, and what a purge leaves.
use Rattle.std.proofs.Common.{◌≡◌, inl, inr, ℕ, ◌+◌, ◌≤◌, Bool, true, false, List, [], ◌∷◌, ◌++◌, length, Option, refl, sym, subst, arith}
use Rattle.std.specs.List.{AllByRecursion, Contains, sum}
use Rattle.std.specs.declared.num.NonZeroU32.{NonZeroU32 as Token}
use Rattle.std.proofs.lemmas.List.Elements.{Contains-append_left, Contains-append_right, Contains-append_cases}
use Rattle.std.proofs.lemmas.List.Sums.{sum_by-cons}
use Rattle.quick_cache_model.specs.declared.terms.lifecycle.Lifecycle as lifecycle
use Rattle.quick_cache_model.specs.CacheState.{CacheState, Item, UpToOrder, item_count}
use Rattle.quick_cache_model.specs.Fitting.{FitsIn, AllFit}
use Rattle.quick_cache_model.proofs.OrderLaws.{UpToOrder-exact, UpToOrder-map}
use Rattle.quick_cache_policy.proofs.WrittenPlaces.{Contains-first, Contains-later, Contains-cons_cases}
use Rattle.quick_cache_shard.specs.Predicates.{StayAsAnswered, RetainsAsked}
use Rattle.quick_cache_shard.specs.RetainsSome.{StaysIfPassed, RetainsSome}
use Rattle.quick_cache_shard.specs.Shard.{Shard, residents}
use Rattle.quick_cache_locked.specs.Locked.{FromSome}
use Rattle.quick_cache_sync.specs.Sums.{AddsUp}
use Rattle.quick_cache_expiring.specs.declared.lasting.Lasting.{Lasting}
use Rattle.quick_cache_expiring.specs.declared.by_value.ByValue.{ByValue}
use Rattle.quick_cache_expiring.specs.Lives.{lives}
use Rattle.quick_cache_expiring_sync.specs.Purges.{PurgesAll, StaysWhereLives}
use Rattle.promises.proofs.RetainLemmas.{as-many}

module _ {K V : Type 0} (fits : K → V → Type 0) (answers : K → V → Bool → Type 0) where
  -- what an item is answered that fits
  abbrev OfFitting : K → V → Bool → Type 0
  OfFitting key value answer = fits key value × answers key value answer

  stay-fitting : (old new : List (Item K V)) → AllByRecursion (FitsIn fits) old
      → StayAsAnswered answers old new → StayAsAnswered OfFitting old new
  stay-fitting _ _ fit StayAsAnswered.ends = StayAsAnswered.ends
  stay-fitting _ _ fit (StayAsAnswered.stays item items left says stay) =
      StayAsAnswered.stays item items left (fit.0, says) (stay-fitting items left fit.1 stay)
  stay-fitting _ _ fit (StayAsAnswered.goes item items left says stay) =
      StayAsAnswered.goes item items left (fit.0, says) (stay-fitting items left fit.1 stay)

  -- where each item that fits was answered yes, there are as many as before
  pub none-goes : ((key : K) (value : V) (answer : Bool) → fits key value
      → answers key value answer → answer ≡ true)
      → (old new : CacheState K V) → AllFit fits old → UpToOrder (RetainsAsked answers old) new
      → item_count new ≡ item_count old
  none-goes passes old new fit retains =
      as-many OfFitting (λ key value answer both. passes key value answer both.0 both.1) old new
      (UpToOrder-map (RetainsAsked answers old) (RetainsAsked OfFitting old) new
      (λ state asked. record {
        hot = stay-fitting old.hot state.hot fit.hot asked.hot;
        cold = stay-fitting old.cold state.cold fit.cold asked.cold;
        still = stay-fitting old.still state.still fit.still asked.still;
        same = asked.same;
      }) retains)

module _ {K V : Type 0} (answers : K → V → Bool → Type 0) (item : Item K V)
    (kept : answers item.key item.value false → ⊥) where
  still-there : (old new : List (Item K V)) → StayAsAnswered answers old new → Contains old item
      → Contains new item
  still-there _ _ StayAsAnswered.ends there = there
  still-there _ _ (StayAsAnswered.stays first olds news says stay) there =
      elim (Contains-cons_cases first olds item there) [
        | inl is ↦ subst (λ x. Contains (x ∷ news) item) (sym is) (Contains-first item news)
        | inr later ↦ Contains-later first news item (still-there olds news stay later)
      ]
  still-there _ _ (StayAsAnswered.goes first olds news says stay) there =
      elim (Contains-cons_cases first olds item there) [
        | inl is ↦ absurd (kept (subst (λ (x : Item K V). answers x.key x.value false) is says))
        | inr later ↦ still-there olds news stay later
      ]

  -- an item that is not answered no is there still
  pub resident-still : (old new : CacheState K V) → RetainsAsked answers old new
      → Contains (residents old) item → Contains (residents new) item
  resident-still old new asked there =
      elim (Contains-append_cases (old.hot ++ old.cold) old.still item there) [
        | inl of_rings ↦ Contains-append_left (new.hot ++ new.cold) new.still item
            (elim (Contains-append_cases old.hot old.cold item of_rings) [
              | inl of_hot ↦ Contains-append_left new.hot new.cold item
                  (still-there old.hot new.hot asked.hot of_hot)
              | inr of_cold ↦ Contains-append_right new.hot new.cold item
                  (still-there old.cold new.cold asked.cold of_cold)
            ])
        | inr of_still ↦ Contains-append_right (new.hot ++ new.cold) new.still item
            (still-there old.still new.still asked.still of_still)
      ]

module _ {K V L S : Type 0} (We B : Type 0) (life : lifecycle.Ghosts L K (Lasting V) S)
    (equal : K → K → Bool) (now : ℕ)
    (live : (key : K) (lasting : Lasting V) → life.fits key lasting
    → lives lasting.until now ≡ true) where
  -- a shard has as many behind the purge as before
  none-gone : (gone : ℕ) → FromSome life equal
      (λ (shard : Shard K (Lasting V) (ByValue We) B L). PurgesAll now shard.state gone) → gone ≡ 0
  none-gone gone some =
      omega (
        arith,
        some.holds.counts,
        none-goes life.fits (StaysWhereLives now)
            (λ key lasting answer fit told. rw told (live key lasting fit))
            some.shard.state some.holds.new some.kept.fit some.holds.step,
      )

  none-each : (numbers : List ℕ)
      → AllByRecursion (λ gone. FromSome life equal
      (λ (shard : Shard K (Lasting V) (ByValue We) B L). PurgesAll now shard.state gone)) numbers
      → sum numbers ≡ 0
  none-each [] all = refl
  none-each (gone ∷ rest) all =
      let adds : sum (gone ∷ rest) ≡ gone + sum rest = sum_by-cons (λ number. number) gone rest in
      omega (arith, adds, none-gone gone all.0, none-each rest all.1)

  -- so it took none
  pub none-purged : (shards total : ℕ)
      → AddsUp life equal
      (λ (shard : Shard K (Lasting V) (ByValue We) B L) gone. PurgesAll now shard.state gone)
      shards total
      → total ≡ 0
  none-purged shards total adds = rw adds.adds (rw (none-each adds.numbers adds.each) refl)

module _ {K V We B L : Type 0} (answers : K → V → Bool → Type 0) (after at_most : ℕ)
    (old : Shard K V We B L) (answer : Option Token × ℕ) (new : Shard K V We B L)
    (some : RetainsSome answers after old at_most answer new) where
  -- where none of the items that fit and were passed was answered no, none is gone
  pub none-of-some : (fits : K → V → Type 0)
      → ((key : K) (value : V) → fits key value → answers key value false → ⊥)
      → AllFit fits old.state → answer.1 ≡ 0
  none-of-some fits never fit =
      omega (
        arith,
        some.counts,
        none-goes fits (StaysIfPassed answers some.passed) passes old.state new.state fit
            (UpToOrder-exact _ new.state some.retains.retains),
      )
    where
      passes : (key : K) (value : V) (stays : Bool) → fits key value
          → StaysIfPassed answers some.passed key value stays → stays ≡ true
      passes key value true fit told = refl
      passes key value false fit told = absurd (never key value fit told.1)

  -- so many were passed at most
  passed-few : length some.passed ≤ at_most
  passed-few = elim some.stops [
    | inl there ↦ omega (arith, there.0)
    | inr ended ↦ ended.0
  ]

  -- where none was passed, none is gone
  pub none-of-none : at_most ≡ 0 → answer.1 ≡ 0
  none-of-none none =
      omega (
        arith,
        some.counts,
        as-many (StaysIfPassed answers some.passed) passes old.state new.state
            (UpToOrder-exact _ new.state some.retains.retains),
      )
    where
      passes : (key : K) (value : V) (stays : Bool)
          → StaysIfPassed answers some.passed key value stays → stays ≡ true
      passes key value true told = refl
      passes key value false told = absurd (omega (arith, told.0.1.1, passed-few, none))
