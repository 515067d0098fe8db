-- A load of a key that is absent, and a renewal where all are over.
use Rattle.std.proofs.Common.{◌≡◌, ℕ, Bool, true, false, List, Option, Some, None, is_some, Result, Ok, Err, IfOk, refl, ap, subst, sym, ◌∙◌}
use Rattle.std.specs.List.{AllByRecursion}
use Rattle.quick_cache_model.specs.CacheState.{CacheState, Item, Place, InHot, InCold, InStill, SameButOrder, items_at}
use Rattle.quick_cache_model.specs.Finding.{HasNoItem}
use Rattle.quick_cache_model.specs.Fitting.{AllFit, FitsIn}
use Rattle.quick_cache_model.specs.Hooks.{Rules}
use Rattle.quick_cache_model.specs.Lookups.{LooksUp}
use Rattle.quick_cache_model.specs.Removal.{RemovesIf}
use Rattle.quick_cache_model.proofs.EachElement.{all-middle, all-permutation}
use Rattle.quick_cache_shard.specs.Steps.{Goes}
use Rattle.quick_cache_unsync.specs.declared.loading.not_loaded.LoadError.{LoadError}
use Rattle.quick_cache_expiring.specs.Entries.{Entries, Expires, Touches, expired_after}
use Rattle.quick_cache_expiring.specs.Lives.{lives}
use Rattle.quick_cache_expiring.specs.Loads.{FetchesAt, GivesWithEnd, without_end}
use Rattle.quick_cache_expiring.specs.declared.by_value.ByValue.{ByValue}
use Rattle.quick_cache_expiring.specs.declared.lasting.Lasting.{Lasting}
use Rattle.promises.proofs.AnsweredLemmas.{Fetches-absent, no-item}

module _ {K V : Type 0} (stands_for : K → Bool) (old : CacheState K V)
    (none : HasNoItem stands_for old) where
  -- no item is there either where the order is another
  none-reordered : (new : CacheState K V) → SameButOrder old new → HasNoItem stands_for new
  none-reordered new order = subst (HasNoItem stands_for) (sym order.same) (record {
    hot = none.hot;
    cold = none.cold;
    still = all-permutation (λ (i : Item K V). stands_for i.key ≡ false) old.still new.still
        order.still none.still;
  })

  -- a removal by a test takes none
  none-removed : (passes : V → Bool) (taken : Option (K × V)) (new : CacheState K V)
      → RemovesIf stands_for old passes taken new → (taken ≡ None) × (new ≡ old)
  none-removed passes _ _ (RemovesIf.goes place before item after at said) =
      absurd (no-item stands_for old none place before item after at)
  none-removed passes _ _ (RemovesIf.stays place before item after at said) =
      absurd (no-item stands_for old none place before item after at)
  none-removed passes _ _ (RemovesIf.absent also) = (refl, refl)

-- a value without its end is what the loader gave
without-end : {V E : Type 0} (given : Result V E → Type 0) (until : ℕ)
    (told : Result (Lasting V) (LoadError E))
    → IfOk told (λ lasting. GivesWithEnd given until (Ok lasting))
    → IfOk (without_end told) (λ value. given (Ok value))
without-end given until (Ok lasting) gave = gave.0
without-end given until (Err error) gave = tt

module _ {K V We B L : Type 0} (stands_for : K → Bool) (now : ℕ) (old : Entries K V We B L)
    (none : HasNoItem stands_for old.cache.state) where
  -- where none is there, none is over
  none-expires : (over : Bool) (mid : Entries K V We B L) → Expires stands_for now old over mid
      → HasNoItem stands_for mid.cache.state × (mid.expired ≡ old.expired)
  none-expires over mid expires =
      let gone = none-removed stands_for old.cache.state none _ expires.taken
      expires.removes.ordered expires.removes.holds in
      let still : over ≡ false =
      expires.told ∙ ap (λ (taken : Option (K × Lasting V)). is_some taken) gone.0 in (
        none-reordered stands_for old.cache.state none mid.cache.state
            (subst (λ (s : CacheState K (Lasting V)). SameButOrder s mid.cache.state) gone.1
            expires.removes.same),
        ap (λ (e : Entries K V We B L). e.expired) expires.rest
            ∙ ap (λ (o : Bool). expired_after o old.expired) still,
      )

  -- so a load answers what the loader gave, and tells of none that was over
  pub FetchesAt-absent : {S E : Type 0} (goes : Goes K (Lasting V) (ByValue We) B L S)
      (is_default : S → Type 0) (gives : K → Type 0) (hash_by : B → ℕ) (until : ℕ)
      (given : Result V E → Type 0) (is_clone : V → V → Type 0) (is_infallible : V → Type 0)
      (answer : Result V (LoadError E)) (new : Entries K V We B L)
      → FetchesAt goes is_default stands_for gives hash_by now until given old is_clone
      is_infallible answer new
      → IfOk answer (λ value. given (Ok value)) × (new.expired ≡ old.expired)
  FetchesAt-absent {S} {E} goes is_default gives hash_by until given is_clone is_infallible answer new
      fetches =
      let mid = none-expires fetches.over fetches.mid fetches.expires in (
        subst (λ (a : Result V (LoadError E)). IfOk a (λ value. given (Ok value)))
            (sym fetches.values)
            (without-end given until fetches.told
            (Fetches-absent stands_for fetches.mid.cache.state mid.0 _ _ _ _ _ _ _ _ _
            fetches.told new.cache.state fetches.fetches)),
        ap (λ (e : Entries K V We B L). e.expired) fetches.rest ∙ mid.1,
      )

module _ {K V We B L : Type 0} (stands_for : K → Bool) (now until : ℕ) (old : Entries K V We B L)
    (over : AllFit (λ _ (lasting : Lasting V). lives lasting.until now ≡ false) old.cache.state) where
  -- an item is over
  abbrev IsOver : K → Lasting V → Type 0
  IsOver _ lasting = lives lasting.until now ≡ false

  each-over : (place : Place) → AllByRecursion (FitsIn IsOver) (items_at place old.cache.state)
  each-over InHot = over.hot
  each-over InCold = over.cold
  each-over InStill = over.still

  -- so is what is looked up
  looked_up-over : (seen : Lasting V) (new : CacheState K (Lasting V))
      → LooksUp stands_for old.cache.state (λ item. item.value) (Some seen) new
      → lives seen.until now ≡ false
  looked_up-over _ _ (LooksUp.hit place before item after there) =
      all-middle (FitsIn IsOver) before item after
      (subst (λ (xs : List (Item K (Lasting V))). AllByRecursion (FitsIn IsOver) xs) there.split
      (each-over place))

  -- and none is renewed
  pub none-renewed : (rules : Rules K (Lasting V)) (new : Entries K V We B L) (renewed : Bool)
      → Touches rules stands_for now until old renewed new → renewed ≡ false
  none-renewed rules new false touches = refl
  none-renewed rules new true renews =
      renews.looks_up.said ∙ looked_up-over renews.found _ renews.looks_up.looks_up.holds
