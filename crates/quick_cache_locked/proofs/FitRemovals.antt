-- Removals, and a new capacity, keep every value fitting its key.
use Rattle.std.proofs.Common.{◌≡◌, ℕ, Bool, List, ◌++◌, Option, sym, subst, IfSome}
use Rattle.std.specs.List.{AllByRecursion}
use Rattle.quick_cache_model.specs.declared.terms.lifecycle.Lifecycle as lifecycle
use Rattle.quick_cache_model.specs.CacheState.{CacheState, Item, Place, UpToOrder, with_items}
use Rattle.quick_cache_model.specs.Finding.{IsItemAt}
use Rattle.quick_cache_model.specs.Hooks.{Rules}
use Rattle.quick_cache_model.specs.Removal.{Removes, cleared}
use Rattle.quick_cache_model.proofs.EachElement.{all-without}
use Rattle.quick_cache_shard.specs.Predicates.{RemovesAsked, RetainsAsked, StayAsAnswered}
use Rattle.quick_cache_shard.specs.Lifecycles.{hooks_by}
use Rattle.quick_cache_shard.specs.SetsCapacity.{SetsCapacityTo}
use Rattle.quick_cache_locked.specs.Fitting.{FitsIn, AllFit, FitsQuery}
use Rattle.quick_cache_model.proofs.Fitting.{RunsHooks-fits, TellsResidents-fits}
use Rattle.quick_cache_locked.proofs.FitLemmas.{AllFit-at, AllFit-with, SameButOrder-fits}
use Rattle.quick_cache_locked.proofs.FitWrites.{IsItemAt-fits}

module _ {K V : Type 0} (fits : K → V → Type 0) where
  -- without an item
  pub taken_out-fits : (stands_for : K → Bool) (old : CacheState K V) (place : Place)
      (before : List (Item K V)) (item : Item K V) (after : List (Item K V))
      → IsItemAt stands_for old place before item after → AllFit fits old
      → AllFit fits (with_items place (before ++ after) old)
  taken_out-fits stands_for old place before item after there fit =
      AllFit-with fits place (before ++ after) old
      (all-without (FitsIn fits) before item after
      (subst (λ (xs : List (Item K V)). AllByRecursion (FitsIn fits) xs) there.split
      (AllFit-at fits place old fit))) fit

  module _ (stands_for : K → Bool) (old : CacheState K V) where
    pub Removes-fits : (hash : ℕ) (answer : Option (K × V)) (new : CacheState K V)
        → Removes stands_for old hash answer new → AllFit fits old → AllFit fits new
    Removes-fits hash _ _ (Removes.of_item place before item after there) fit =
        taken_out-fits stands_for old place before item after there fit
    Removes-fits hash _ _ (Removes.of_loading before entry after there) fit =
        record { hot = fit.hot; cold = fit.cold; still = fit.still }
    Removes-fits hash _ _ (Removes.of_ghost before after there) fit =
        record { hot = fit.hot; cold = fit.cold; still = fit.still }
    Removes-fits hash _ _ (Removes.of_nothing nothing) fit = fit

    -- what is taken out fits a key that the query stands for
    pub Removes-gives : (hash : ℕ) (answer : Option (K × V)) (new : CacheState K V)
        → Removes stands_for old hash answer new → AllFit fits old
        → IfSome answer (λ pair. FitsQuery fits stands_for pair.1)
    Removes-gives hash _ _ (Removes.of_item place before item after there) fit = record {
      key = item.key;
      stands = there.passes;
      fits_key = IsItemAt-fits fits stands_for old place before item after there fit;
    }
    Removes-gives hash _ _ (Removes.of_loading before entry after there) fit = tt
    Removes-gives hash _ _ (Removes.of_ghost before after there) fit = tt
    Removes-gives hash _ _ (Removes.of_nothing nothing) fit = tt

    pub RemovesAsked-fits : (answers : V → Bool → Type 0) (answer : Option (K × V))
        (new : CacheState K V)
        → RemovesAsked stands_for old answers answer new → AllFit fits old → AllFit fits new
    RemovesAsked-fits answers _ _ (RemovesAsked.goes place before item after there says) fit =
        taken_out-fits stands_for old place before item after there fit
    RemovesAsked-fits answers _ _ (RemovesAsked.stays place before item after there says) fit = fit
    RemovesAsked-fits answers _ _ (RemovesAsked.absent none) fit = fit

    pub RemovesAsked-gives : (answers : V → Bool → Type 0) (answer : Option (K × V))
        (new : CacheState K V)
        → RemovesAsked stands_for old answers answer new → AllFit fits old
        → IfSome answer (λ pair. FitsQuery fits stands_for pair.1)
    RemovesAsked-gives answers _ _ (RemovesAsked.goes place before item after there says) fit =
        record {
          key = item.key;
          stands = there.passes;
          fits_key = IsItemAt-fits fits stands_for old place before item after there fit;
        }
    RemovesAsked-gives answers _ _ (RemovesAsked.stays place before item after there says) fit = tt
    RemovesAsked-gives answers _ _ (RemovesAsked.absent none) fit = tt

  -- the items that stay
  pub StayAsAnswered-fits : (answers : K → V → Bool → Type 0) (old new : List (Item K V))
      → StayAsAnswered answers old new → AllByRecursion (FitsIn fits) old
      → AllByRecursion (FitsIn fits) new
  StayAsAnswered-fits answers _ _ StayAsAnswered.ends fit = tt
  StayAsAnswered-fits answers _ _ (StayAsAnswered.stays item items left says stay) fit =
      (fit.0, StayAsAnswered-fits answers items left stay fit.1)
  StayAsAnswered-fits answers _ _ (StayAsAnswered.goes item items left says stay) fit =
      StayAsAnswered-fits answers items left stay fit.1

  pub RetainsAsked-fits : (answers : K → V → Bool → Type 0) (old new : CacheState K V)
      → RetainsAsked answers old new → AllFit fits old → AllFit fits new
  RetainsAsked-fits answers old new retains fit = record {
    hot = StayAsAnswered-fits answers old.hot new.hot retains.hot fit.hot;
    cold = StayAsAnswered-fits answers old.cold new.cold retains.cold fit.cold;
    still = StayAsAnswered-fits answers old.still new.still retains.still fit.still;
  }

  -- a step that keeps values fitting leaves values that fit
  pub AllFit-stepped : (old new : CacheState K V) {P : CacheState K V → Type 0} → UpToOrder P new
      → ((next : CacheState K V) → P next → AllFit fits old → AllFit fits next)
      → AllFit fits old → AllFit fits new
  AllFit-stepped old new step keeps fit =
      SameButOrder-fits fits step.ordered new step.same (keeps step.ordered step.holds fit)

  -- the same state
  pub AllFit-same : (old new : CacheState K V) → new ≡ old → AllFit fits old → AllFit fits new
  AllFit-same old new unchanged fit =
      subst (λ (state : CacheState K V). AllFit fits state) (sym unchanged) fit

  -- no items
  pub AllFit-cleared : (old new : CacheState K V) → new ≡ cleared old → AllFit fits new
  AllFit-cleared old new clears =
      subst (λ (state : CacheState K V). AllFit fits state) (sym clears)
      (record { hot = tt; cold = tt; still = tt })

-- behind a lock, a new capacity leaves values that fit
pub AllFit-resized : {K V L S : Type 0} (life : lifecycle.Ghosts L K V S)
    → ((l : L) (was : S) (k : K) (v : V) (now : S) (left : V)
    → life.before_evict_gives l was k v now left → life.fits k v → life.fits k left)
    → (l : L) (old new : CacheState K V) (rules : Rules K V) (capacity : ℕ) (first last : S)
    → SetsCapacityTo (life.steady l) (hooks_by life l) rules capacity old first new last
    → AllFit life.fits old → AllFit life.fits new
AllFit-resized life keeps l old new rules capacity first last sets fit =
    TellsResidents-fits life.fits old new sets.calls
    (RunsHooks-fits life.fits (hooks_by life l) (keeps l) sets.calls first last sets.runs)
    sets.holds.2 fit
