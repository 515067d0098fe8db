-- A value that passes a test and is changed where it stands, or fails it and goes.
use Rattle.std.proofs.Common.{◌≡◌, ℕ, Bool, true, List, [], ◌∷◌, ◌++◌, Option, Some, None, Result, Ok, Err, IfErr, IfOk, IfSome, refl, sym, ap, subst, ◌∙◌}
use Rattle.std.specs.List.{AllByRecursion}
use Rattle.std.specs.Fn.{FnOnceReturnsAt}
use Rattle.std.proofs.lemmas.List.{append_assoc}
use Rattle.std.proofs.lemmas.List.Sorted.{IsPermutation-sym}
use denote.Ref.{Bor}
use denote.Param.Members.{Once}
use Rattle.quick_cache_model.specs.CacheState.{CacheState, Item, IsValid, Place, InHot, InCold, InStill, SameButOrder, UpToOrder, items_at, with_items}
use Rattle.quick_cache_model.specs.Finding.{HasNoItem}
use Rattle.quick_cache_model.specs.Hooks.{Rules}
use Rattle.quick_cache_model.specs.Lookups.{LooksUp, Sees, after_hit, looked_up}
use Rattle.quick_cache_model.specs.References.{WritesItem}
use Rattle.quick_cache_model.specs.Removal.{weighed}
use Rattle.quick_cache_model.proofs.EachElement.{all-middle}
use Rattle.quick_cache_policy.specs.References.{IsValueUnder, ReweighsUnder, with_value_under}
use Rattle.quick_cache_policy.proofs.ReferenceLemmas.{keys_by-query}
use Rattle.quick_cache_shard.specs.Shard.{KeepsWork, Shard}
use Rattle.quick_cache_shard.specs.Steps.{Goes, rules_in}
use Rattle.quick_cache_shard.proofs.WrittenLemmas.{written}
use Rattle.quick_cache_shard.specs.Predicates.{MayBeAskedUnder}
use Rattle.quick_cache_shard.specs.Shared.{PeeksIf}
use Rattle.quick_cache_shard.specs.Tests.{LooksUpOrTakesOut, PassesTest}
use Rattle.quick_cache_model.specs.declared.refusal.Refusal.{Refusal}
use Rattle.quick_cache_locked.specs.Asked.{MayBeAskedOfFittingUnder}
use Rattle.quick_cache_locked.specs.Changes.{LeavesFitting}
use Rattle.quick_cache_locked.specs.Fitting.{FitsIn, AllFit, ClonesFit, FitsQuery}
use Rattle.quick_cache_locked.specs.Peeks.{Miss}
use Rattle.quick_cache_locked.specs.Touches.{any_touches}
use Rattle.quick_cache_locked.proofs.FitLemmas.{AllFit-at, SameButOrder-fits, rewritten-fits}
use Rattle.quick_cache_locked.proofs.FitLoads.{LooksUp-fits}
use Rattle.quick_cache_locked.proofs.FitRemovals.{AllFit-stepped, RemovesAsked-fits, RemovesAsked-gives}
use Rattle.quick_cache_locked.proofs.FitWrites.{IsItemAt-fits}

-- what is true at each place of a list is true of each element
each-at : {X : Type 0} (P : X → Type 0) (front rest : List X)
    → ((before : List X) (x : X) (after : List X) → front ++ rest ≡ before ++ x ∷ after → P x)
    → AllByRecursion P rest
each-at P front [] at = tt
each-at P front (x ∷ rest) at = (
  at front x rest refl,
  each-at P (front ++ x ∷ []) rest
      (λ before y after split. at before y after
      (sym (append_assoc front (x ∷ []) rest) ∙ split)),
)

-- items stand where they were put
items_at-with : {K V : Type 0} (place : Place) (items : List (Item K V)) (state : CacheState K V)
    → items_at place (with_items place items state) ≡ items
items_at-with InHot items state = refl
items_at-with InCold items state = refl
items_at-with InStill items state = refl

module _ {K V : Type 0} (stands_for : K → Bool) where
  -- where the query stands for a key, its value is this one
  abbrev IsOnly : V → K → V → Type 0
  IsOnly was key value = stands_for key ≡ true → was ≡ value

  only-at : (was : V) (place : Place) (state : CacheState K V) → IsValueUnder stands_for state was
      → AllByRecursion (FitsIn (IsOnly was)) (items_at place state)
  only-at was place state under =
      each-at (FitsIn (IsOnly was)) [] (items_at place state)
      (λ before item after split passes. under place before item after
      (record { split = split; passes = passes }))

  -- the same in another order
  turned : (old new : CacheState K V) → SameButOrder old new → SameButOrder new old
  turned old new same = record {
    still = IsPermutation-sym old.still new.still same.still;
    loading = IsPermutation-sym old.loading new.loading same.loading;
    same = sym (ap (λ (s : CacheState K V). record s {
      still = old.still;
      loading = old.loading;
    }) same.same);
  }

  module _ (answers : V → Bool → Type 0) (old mid : CacheState K V) (value : V)
      (looks : PassesTest stands_for answers old value mid) where
    -- the value under the query is the one that was looked up
    pub looked_up-under : (was : V) → IsValueUnder stands_for mid was → was ≡ value
    looked_up-under was under =
        go value looks.looks_up.ordered looks.looks_up.holds
        (SameButOrder-fits (IsOnly was) mid looks.looks_up.ordered
        (turned looks.looks_up.ordered mid looks.looks_up.same)
        (record {
          hot = only-at was InHot mid under;
          cold = only-at was InCold mid under;
          still = only-at was InStill mid under;
        }))
      where
        go : (seen : V) (new : CacheState K V)
            → LooksUp stands_for old (λ item. item.value) (Some seen) new
            → AllFit (IsOnly was) new → was ≡ seen
        go _ _ (LooksUp.hit place before item after there) only =
            all-middle (FitsIn (IsOnly was)) before (looked_up old.mark_cut item) after
            (subst (λ (xs : List (Item K V)). AllByRecursion (FitsIn (IsOnly was)) xs)
            (items_at-with place (before ++ looked_up old.mark_cut item ∷ after) (after_hit old))
            (AllFit-at (IsOnly was) place
            (with_items place (before ++ looked_up old.mark_cut item ∷ after) (after_hit old)) only))
            there.passes

    -- it fits a key that the query stands for, and no value was written
    pub passed-query : (fits : K → V → Type 0) → AllFit fits old → FitsQuery fits stands_for value
    passed-query fits fit = go value looks.looks_up.ordered looks.looks_up.holds
      where
        go : (seen : V) (new : CacheState K V)
            → LooksUp stands_for old (λ item. item.value) (Some seen) new
            → FitsQuery fits stands_for seen
        go _ _ (LooksUp.hit place before item after there) = record {
          key = item.key;
          stands = there.passes;
          fits_key = IsItemAt-fits fits stands_for old place before item after there fit;
        }

    pub passed-fits : (fits : K → V → Type 0) → AllFit fits old → AllFit fits mid
    passed-fits fits fit = AllFit-stepped fits old mid looks.looks_up
        (λ next step. LooksUp-fits fits stands_for old (Some value) next step) fit

    -- a value that is left of it fits, where what is left does
    pub changed-fits : (fits : K → V → Type 0) {T : Type 0} (leaves : V → T → V → Type 0)
        → LeavesFitting leaves stands_for answers fits → (told : T) (left : V)
        → leaves value told left → (was : V) → IsValueUnder stands_for mid was
        → (rules : Rules K V) (new : CacheState K V)
        → UpToOrder (WritesItem rules stands_for mid left true) new → AllFit fits old
        → AllFit fits new
    changed-fits fits leaves fitting told left changed was under rules new writes fit =
        AllFit-stepped fits mid new writes (λ next step. go true next step refl) (passed-fits fits fit)
      where
        go : (there : Bool) (next : CacheState K V) → WritesItem rules stands_for mid left there next
            → there ≡ true → AllFit fits mid → AllFit fits next
        go _ _ (WritesItem.written place before item after at) is all =
            let own : item.value ≡ value =
            sym (under place before item after at) ∙ looked_up-under was under in
            rewritten-fits fits place before item (weighed rules item left) after mid at.split
            (fitting item.key value told left at.passes
            (subst (λ (v : V). fits item.key v) own
            (IsItemAt-fits fits stands_for mid place before item after at all)) looks.said changed) all
        go _ _ (WritesItem.unwritten none) is all = all

module _ {K V : Type 0} (fits : K → V → Type 0) (stands_for : K → Bool) (old : CacheState K V)
    (fit : AllFit fits old) where
  -- a test that may be asked of what fits may be asked of the item under the query
  pub MayBeAsked-fitting : {F : Type 0} (calls : Once F (Bor V × Unit {0}) Bool) (wanted : F)
      → MayBeAskedOfFittingUnder fits stands_for calls wanted
      → MayBeAskedUnder calls wanted stands_for old
  MayBeAsked-fitting calls wanted asks = λ place before item after there.
      asks item.value (record {
        key = item.key;
        stands = there.passes;
        fits_key = IsItemAt-fits fits stands_for old place before item after there fit;
      })

  -- what is seen fits
  pub seen-fits : (seen : Option V) → Sees stands_for old (λ item. item.value) seen
      → IfSome seen (λ value. FitsQuery fits stands_for value)
  seen-fits _ (Sees.is_there place before item after there) = record {
    key = item.key;
    stands = there.passes;
    fits_key = IsItemAt-fits fits stands_for old place before item after there fit;
  }
  seen-fits _ (Sees.is_absent none) = tt

  -- and so does a clone of it
  pub PeeksIf-fits : (is_clone : V → V → Type 0) (answers : V → Bool → Type 0)
      (answer : Result (Result V Miss) Refusal)
      → PeeksIf stands_for is_clone answers old answer → ClonesFit fits is_clone
      → IfOk answer (λ found. IfOk found (λ value. FitsQuery fits stands_for value))
  PeeksIf-fits is_clone answers _ (PeeksIf.passes value clone sees said cloned) clones =
      let of = seen-fits (Some value) sees in
      record {
        key = of.key;
        stands = of.stands;
        fits_key = clones of.key value clone cloned of.fits_key;
      }
  PeeksIf-fits is_clone answers _ (PeeksIf.fails value sees said) clones = tt
  PeeksIf-fits is_clone answers _ (PeeksIf.is_absent none) clones = tt
  PeeksIf-fits is_clone answers _ (PeeksIf.refuses value sees said) clones = tt

  module _ (answers : V → Bool → Type 0) (new : CacheState K V) where
    -- what is left where a value that failed went fits
    pub taken-fits : (taken : Option (K × V))
        → LooksUpOrTakesOut stands_for answers old (Err taken) new → AllFit fits new
    taken-fits (Some pair) takes =
        let all = AllFit-stepped fits old takes.mid takes.removes
        (λ next step. RemovesAsked-fits fits stands_for old _ (Some pair) next step) fit in
        subst (λ (s : CacheState K V). AllFit fits s) (sym takes.counts)
        (record { hot = all.hot; cold = all.cold; still = all.still })
    taken-fits None misses = AllFit-stepped fits old new misses
        (λ next step. LooksUp-fits fits stands_for old None next step) fit

    -- and so does what went
    pub taken-gives : (taken : Option (K × V))
        → LooksUpOrTakesOut stands_for answers old (Err taken) new
        → IfSome taken (λ pair. FitsQuery fits stands_for pair.1)
    taken-gives (Some pair) takes =
        RemovesAsked-gives fits stands_for old _ (Some pair) takes.removes.ordered
        takes.removes.holds fit
    taken-gives None misses = tt

-- what is seen to be absent is not there
pub sees-nothing : {K V : Type 0} (stands_for : K → Bool) (state : CacheState K V) (seen : Option V)
    → Sees stands_for state (λ item. item.value) seen → seen ≡ None → HasNoItem stands_for state
sees-nothing stands_for state _ (Sees.is_there place before item after there) is =
    let never : Some item.value ≡ None = is in absurd cc
sees-nothing stands_for state _ (Sees.is_absent none) is = none

-- a value that was written under a query was weighed by the rules of the shard before the look
pub written-by : {K V We B L S : Type 0} (goes : Goes K V We B L S) (stands_for : K → Bool)
    (equal : K → K → Bool)
    → ((first second : K) → stands_for first ≡ true → stands_for second ≡ true
    → equal first second ≡ true) → (old mid : Shard K V We B L) → KeepsWork old mid
    → IsValid equal mid.state → (key : K) × (stands_for key ≡ true) → (left : V) (new : CacheState K V)
    → ReweighsUnder stands_for (rules_in goes any_touches mid)
    (with_value_under stands_for left mid.state) new
    → UpToOrder (WritesItem (rules_in goes any_touches old) stands_for mid.state left true) new
written-by {K} {V} {We} {B} {L} goes stands_for equal same old mid work valid asked left new
    reweighs =
    written (rules_in goes any_touches old) stands_for left mid.state new
    (keys_by-query stands_for equal same mid.state valid asked.0 asked.1)
    (subst (λ (rules : Rules K V). ReweighsUnder stands_for rules
    (with_value_under stands_for left mid.state) new)
    (ap (λ (shard : Shard K V We B L). rules_in goes any_touches shard) work) reweighs)
