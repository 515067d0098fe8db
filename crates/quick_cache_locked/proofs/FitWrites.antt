-- Writes keep every value fitting its key, whatever is pinned.
use Rattle.std.proofs.Common.{ℕ, min, Bool, List, Option, Some, None, Result, Ok, Err, IfErr, sym, subst}
use Rattle.std.specs.List.{AllByRecursion}
use Rattle.quick_cache_model.specs.declared.terms.lifecycle.Lifecycle as lifecycle
use Rattle.quick_cache_model.specs.declared.queue.Queue.{Queue}
use Rattle.quick_cache_model.specs.declared.refusal.Refusal.{Refusal}
use Rattle.quick_cache_model.specs.CacheState.{CacheState, Item, Place}
use Rattle.quick_cache_model.specs.Hooks.{Rules, Hooks}
use Rattle.quick_cache_model.specs.Finding.{IsItemAt}
use Rattle.quick_cache_model.specs.Writes.{Strategy, Insert, new_item}
use Rattle.quick_cache_model.proofs.EachElement.{all-middle}
use Rattle.quick_cache_shard.specs.Lifecycles.{hooks_by}
use Rattle.quick_cache_shard.specs.Steps.{AnswersRestore}
use Rattle.quick_cache_shard.specs.Shard.{Wrote}
use Rattle.quick_cache_shard.specs.Inserts.{Inserts}
use Rattle.quick_cache_shard.specs.Replaces.{Replaces}
use Rattle.quick_cache_model.specs.Kinds.{replacement}
use Rattle.quick_cache_locked.specs.Fitting.{FitsIn, AllFit}
use Rattle.quick_cache_model.proofs.Fitting.{RunsHooks-fits, TellsBeside-fits, TellsBeside-gives}
use Rattle.quick_cache_locked.proofs.FitLemmas.{AllFit-at, SameButOrder-fits, entered-fits}

module _ {K V : Type 0} (fits : K → V → Type 0) where
  -- the item that was found
  pub IsItemAt-fits : (stands_for : K → Bool) (state : CacheState K V) (place : Place)
      (before : List (Item K V)) (item : Item K V) (after : List (Item K V))
      → IsItemAt stands_for state place before item after → AllFit fits state → FitsIn fits item
  IsItemAt-fits stands_for state place before item after there fit =
      all-middle (FitsIn fits) before item after
      (subst (λ (xs : List (Item K V)). AllByRecursion (FitsIn fits) xs) there.split
      (AllFit-at fits place state fit))

  module _ {S : Type 0} (steady : Type 0) (hooks : Hooks K V S)
      (keeps : (was : S) (k : K) (v : V) (now : S) (left : V)
      → hooks.before_evict was k v now left → fits k v → fits k left)
      (rules : Rules K V) (equal : K → K → Bool) (strategy : Strategy) (old : CacheState K V)
      (first : S) (key : K) (value : V) (new : CacheState K V) (last : S) (is : fits key value)
      (fit : AllFit fits old) where
    -- a write that was made
    pub Wrote-fits : (answer : Option (K × V))
        → Wrote steady hooks rules equal strategy old first key value answer new last
        → AllFit fits new
    Wrote-fits answer wrote =
        TellsBeside-fits fits key value old new wrote.step.calls answer
        (RunsHooks-fits fits hooks keeps wrote.step.calls first last wrote.step.runs)
        wrote.step.holds.2 is fit

    -- the pair that it gave back, if it did
    pub Wrote-gives : (back : K × V)
        → Wrote steady hooks rules equal strategy old first key value (Some back) new last
        → fits back.0 back.1
    Wrote-gives back wrote =
        TellsBeside-gives fits key value old new wrote.step.calls (Some back)
        (RunsHooks-fits fits hooks keeps wrote.step.calls first last wrote.step.runs)
        wrote.step.holds.2 is fit

module _ {K V L S : Type 0} (life : lifecycle.Ghosts L K V S)
    (keeps : (l : L) (was : S) (k : K) (v : V) (now : S) (left : V)
    → life.before_evict_gives l was k v now left → life.fits k v → life.fits k left)
    (l : L) (old new : CacheState K V) (rules : Rules K V) (equal : K → K → Bool) (first : S)
    (key : K) (value : V) (last : S) (is : life.fits key value) (fit : AllFit life.fits old) where
  -- behind a lock, an insert of a pair that fits leaves values that fit
  pub AllFit-inserted : (answer : Result (Unit {0}) (K × V × Refusal))
      → Inserts (life.steady l) (hooks_by life l) rules equal old first key value answer new last
      → AllFit life.fits new
  AllFit-inserted (Ok done) wrote =
      Wrote-fits life.fits (life.steady l) (hooks_by life l) (keeps l) rules equal Insert old first
      key value new last is fit None wrote
  AllFit-inserted (Err back) refuses =
      subst (λ (s : CacheState K V). AllFit life.fits s) (sym refuses.unchanged) fit

  -- and so does a replace
  pub AllFit-replaced : (soft : Bool) (answer : Result (Unit {0}) (K × V))
      → Replaces (life.steady l) (hooks_by life l) rules equal old soft first key value answer new
      last → AllFit life.fits new
  AllFit-replaced soft (Ok done) wrote =
      Wrote-fits life.fits (life.steady l) (hooks_by life l) (keeps l) rules equal
      (replacement soft) old first key value new last is fit None wrote
  AllFit-replaced soft (Err back) wrote =
      Wrote-fits life.fits (life.steady l) (hooks_by life l) (keeps l) rules equal
      (replacement soft) old first key value new last is fit (Some back) wrote

  -- and a pair that it gives back fits
  pub replaced-gives : (soft : Bool) (answer : Result (Unit {0}) (K × V))
      → Replaces (life.steady l) (hooks_by life l) rules equal old soft first key value answer new
      last → IfErr answer (λ back. life.fits back.0 back.1)
  replaced-gives soft (Ok done) wrote = tt
  replaced-gives soft (Err back) wrote =
      Wrote-gives life.fits (life.steady l) (hooks_by life l) (keeps l) rules equal
      (replacement soft) old first key value new last is fit back wrote

-- a pair that comes back leaves values that fit
pub AllFit-restored : {K V : Type 0} (fits : K → V → Type 0) (rules : Rules K V)
    (equal : K → K → Bool) (key : K) (value : V) (queue : Queue) (mark : ℕ)
    (old new : CacheState K V) (answer : Result (Unit {0}) (K × V × Option Refusal))
    → AnswersRestore rules equal key value queue mark old answer new
    → fits key value → AllFit fits old → AllFit fits new
AllFit-restored fits rules equal key value queue mark old new (Ok done) answers is fit =
    SameButOrder-fits fits answers.1.ordered new answers.1.same
    (subst (λ (s : CacheState _ _). AllFit fits s) (sym answers.1.holds)
    (entered-fits fits (new_item rules key value queue (min mark old.mark_cut)) old is fit))
AllFit-restored fits rules equal key value queue mark old new (Err back) answers is fit =
    subst (λ (s : CacheState _ _). AllFit fits s) (sym answers.2) fit
