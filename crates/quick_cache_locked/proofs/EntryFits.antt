-- Entry calls keep every value fitting its key, and give back values that fit.
use Rattle.std.proofs.Common.{◌≡◌, ℕ, Bool, true, inl, inr, Result, Ok, Err, sym, subst}
use denote.Ref.{Bor, MutBor}
use denote.Param.Members.{Mut}
use Rattle.quick_cache_model.specs.declared.refusal.Refusal.{Refusal}
use Rattle.quick_cache_model.specs.CacheState.{CacheState, Item}
use Rattle.quick_cache_model.specs.Entries.{EntryChoice, EntryOutcome, ActsOnEntry}
use Rattle.quick_cache_model.specs.Hooks.{Rules}
use Rattle.quick_cache_model.specs.Lookups.{looked_up}
use Rattle.quick_cache_model.specs.Removal.{weighed, reweighed}
use Rattle.quick_cache_model.specs.declared.calls.entry.EntryAction.{EntryAction}
use Rattle.quick_cache_model.specs.declared.calls.entry.EntryOrPlaceholder.{EntryOrPlaceholder}
use Rattle.quick_cache_model.specs.Callbacks.{ActsAsChosen, choice_of}
use Rattle.quick_cache_policy.specs.Entering.{AnswersEntry}
use Rattle.quick_cache_guard.specs.Acts.{Chooses, DoesAsChosen, IfAbsent, IfGone, IfKept, LeavesFit, MayTell}
use Rattle.quick_cache_locked.specs.Acting.{LeavesNow}
use Rattle.quick_cache_locked.specs.Fitting.{AllFit, FitsQuery}
use Rattle.quick_cache_locked.proofs.FitLemmas.{rewritten-fits, SameButOrder-fits}
use Rattle.quick_cache_locked.proofs.FitLoads.{MakesPlaceholder-fits, MeetsPlaceholder-fits}
use Rattle.quick_cache_locked.proofs.FitRemovals.{taken_out-fits}
use Rattle.quick_cache_locked.proofs.FitWrites.{IsItemAt-fits}

module _ {K V : Type 0} (rules : Rules K V) (stands_for : K → Bool) (old : CacheState K V)
    (item : Item K V) (left : V) where
  -- the item that the callback saw is under the query
  ActsOnEntry-stands : (choice : EntryChoice) (outcome : EntryOutcome) (new : CacheState K V)
      → ActsOnEntry rules stands_for old item left choice outcome new
      → stands_for item.key ≡ true
  ActsOnEntry-stands _ _ _ (ActsOnEntry.kept place before after there) = there.passes
  ActsOnEntry-stands _ _ _ (ActsOnEntry.removed place before after now front back there again) =
      there.passes
  ActsOnEntry-stands _ _ _ (ActsOnEntry.replaced place before after now front back there again
      provided) = there.passes
  ActsOnEntry-stands _ _ _ (ActsOnEntry.refused place before after refusal there cause) =
      there.passes

module _ {K V : Type 0} (fits : K → V → Type 0) (rules : Rules K V) (stands_for : K → Bool)
    (old : CacheState K V) (item : Item K V) (left : V) where
  -- the item that the callback saw is under the query, and its value fits
  ActsOnEntry-item : (choice : EntryChoice) (outcome : EntryOutcome) (new : CacheState K V)
      → ActsOnEntry rules stands_for old item left choice outcome new → AllFit fits old
      → (stands_for item.key ≡ true) × fits item.key item.value
  ActsOnEntry-item _ _ _ (ActsOnEntry.kept place before after there) fit =
      (there.passes, IsItemAt-fits fits stands_for old place before item after there fit)
  ActsOnEntry-item _ _ _ (ActsOnEntry.removed place before after now front back there again) fit =
      (there.passes, IsItemAt-fits fits stands_for old place before item after there fit)
  ActsOnEntry-item _ _ _ (ActsOnEntry.replaced place before after now front back there again
      provided) fit =
      (there.passes, IsItemAt-fits fits stands_for old place before item after there fit)
  ActsOnEntry-item _ _ _ (ActsOnEntry.refused place before after refusal there cause) fit =
      (there.passes, IsItemAt-fits fits stands_for old place before item after there fit)

  -- where the callback left a value that fits, all values fit
  ActsOnEntry-fits : (choice : EntryChoice) (outcome : EntryOutcome) (new : CacheState K V)
      → ActsOnEntry rules stands_for old item left choice outcome new → fits item.key left
      → AllFit fits old → AllFit fits new
  ActsOnEntry-fits _ _ _ (ActsOnEntry.kept place before after there) is fit =
      let written = rewritten-fits fits place before item
      (weighed rules (looked_up old.mark_cut item) left) after old there.split is fit in
      record { hot = written.hot; cold = written.cold; still = written.still }
  ActsOnEntry-fits _ _ _ (ActsOnEntry.removed place before after now front back there again) is fit =
      taken_out-fits fits stands_for (reweighed rules place before item after left old) now front
      (weighed rules item left) back again
      (rewritten-fits fits place before item (weighed rules item left) after old there.split is fit)
  ActsOnEntry-fits _ _ _ (ActsOnEntry.replaced place before after now front back there again
      provided) is fit =
      let taken = taken_out-fits fits stands_for (reweighed rules place before item after left old)
      now front (weighed rules item left) back again
      (rewritten-fits fits place before item (weighed rules item left) after old there.split is fit)
      in
      record { hot = taken.hot; cold = taken.cold; still = taken.still }
  ActsOnEntry-fits _ _ _ (ActsOnEntry.refused place before after refusal there cause) is fit =
      rewritten-fits fits place before item (weighed rules item left) after old there.split is fit

module _ {F K V T : Type 0} (fits : K → V → Type 0)
    (calls : Mut F (Bor K × (MutBor V × Unit {0})) (EntryAction T × (MutBor V × Unit {0})))
    (rules : Rules K V) (stands_for : K → Bool) (callback : F) (old : CacheState K V)
    (leaves : LeavesFit (LeavesNow calls callback) fits) where
  -- what was left fits a key that the query stands for
  chosen_left : (action : EntryAction T) (outcome : EntryOutcome) (gives : Item K V → V → Type 0)
      (next : F) (new : CacheState K V)
      → (acts : ActsAsChosen calls rules stands_for callback old action outcome gives next new)
      → AllFit fits old
      → (stands_for acts.item.key ≡ true) × fits acts.item.key acts.left
  chosen_left action outcome gives next new acts fit =
      let was = ActsOnEntry-item fits rules stands_for old acts.item acts.left (choice_of action)
      outcome acts.step.ordered acts.step.holds fit in
      (was.0, leaves acts.item.key acts.item.value action acts.left (next, acts.called) was.1)

  -- and so all values fit
  chosen_fits : (action : EntryAction T) (outcome : EntryOutcome) (gives : Item K V → V → Type 0)
      (next : F) (new : CacheState K V)
      → ActsAsChosen calls rules stands_for callback old action outcome gives next new
      → AllFit fits old → AllFit fits new
  chosen_fits action outcome gives next new acts fit =
      SameButOrder-fits fits acts.step.ordered new acts.step.same
      (ActsOnEntry-fits fits rules stands_for old acts.item acts.left (choice_of action) outcome
      acts.step.ordered acts.step.holds
      (chosen_left action outcome gives next new acts fit).1 fit)

  module _ {W : Type 0} (own_ticket : W → ℕ) (given : K → Type 0) (hash : ℕ) where
    -- an entry call keeps all values fitting
    pub AnswersEntry-fits : (answer : Result (EntryOrPlaceholder K V W T) Refusal) (next : F)
        (new : CacheState K V)
        → AnswersEntry calls rules stands_for callback old own_ticket given hash answer next new
        → AllFit fits old → AllFit fits new
    AnswersEntry-fits (Ok (EntryOrPlaceholder.Kept told)) next new acts fit =
        chosen_fits _ _ _ next new acts fit
    AnswersEntry-fits (Ok (EntryOrPlaceholder.Removed key value)) next new acts fit =
        chosen_fits _ _ _ next new acts fit
    AnswersEntry-fits (Ok (EntryOrPlaceholder.Replaced placeholder value)) next new acts fit =
        chosen_fits _ _ _ next new acts fit
    AnswersEntry-fits (Ok (EntryOrPlaceholder.ExistingPlaceholder placeholder)) next new meets fit =
        SameButOrder-fits fits meets.1.ordered new meets.1.same
        (MeetsPlaceholder-fits fits stands_for old _ meets.1.ordered meets.1.holds fit)
    AnswersEntry-fits (Ok (EntryOrPlaceholder.NewPlaceholder placeholder)) next new makes fit =
        SameButOrder-fits fits makes.1.step.ordered new makes.1.step.same
        (MakesPlaceholder-fits fits stands_for old hash makes.1.key makes.1.step.ordered
        makes.1.step.holds fit)
    AnswersEntry-fits (Err refusal) next new (inl acts) fit = chosen_fits _ _ _ next new acts fit
    AnswersEntry-fits (Err refusal) next new (inr none) fit =
        subst (λ (state : CacheState K V). AllFit fits state) (sym none.1.unchanged) fit

    -- and a value that it gives back fits
    pub AnswersEntry-gives : (answer : Result (EntryOrPlaceholder K V W T) Refusal) (next : F)
        (new : CacheState K V)
        → AnswersEntry calls rules stands_for callback old own_ticket given hash answer next new
        → AllFit fits old → IfGone answer (λ value. FitsQuery fits stands_for value)
    AnswersEntry-gives (Ok (EntryOrPlaceholder.Kept told)) next new acts fit = tt
    AnswersEntry-gives (Ok (EntryOrPlaceholder.Removed key value)) next new acts fit =
        let left = chosen_left _ _ _ next new acts fit in record {
          key = acts.item.key;
          stands = left.0;
          fits_key = subst (λ v. fits acts.item.key v) (sym acts.given.1) left.1;
        }
    AnswersEntry-gives (Ok (EntryOrPlaceholder.Replaced placeholder value)) next new acts fit =
        let left = chosen_left _ _ _ next new acts fit in record {
          key = acts.item.key;
          stands = left.0;
          fits_key = subst (λ v. fits acts.item.key v) (sym acts.given.1) left.1;
        }
    AnswersEntry-gives (Ok (EntryOrPlaceholder.ExistingPlaceholder placeholder)) next new meets
        fit = tt
    AnswersEntry-gives (Ok (EntryOrPlaceholder.NewPlaceholder placeholder)) next new makes fit = tt
    AnswersEntry-gives (Err refusal) next new none fit = tt

module _ {F K V T W : Type 0}
    (calls : Mut F (Bor K × (MutBor V × Unit {0})) (EntryAction T × (MutBor V × Unit {0})))
    (rules : Rules K V) (stands_for : K → Bool) (callback : F) (old : CacheState K V)
    (own_ticket : W → ℕ) (given : K → Type 0) (hash : ℕ) where
  -- what is told was told by the callback, of a value that fits
  pub AnswersEntry-tells : (fits : K → V → Type 0)
      (answer : Result (EntryOrPlaceholder K V W T) Refusal) (next : F) (new : CacheState K V)
      → AnswersEntry calls rules stands_for callback old own_ticket given hash answer next new
      → AllFit fits old
      → IfKept answer (λ told. MayTell (LeavesNow calls callback) fits stands_for told)
  AnswersEntry-tells fits (Ok (EntryOrPlaceholder.Kept told)) next new acts fit = record {
    key = acts.item.key;
    value = acts.item.value;
    left = acts.left;
    called = (next, acts.called);
    stands = ActsOnEntry-stands rules stands_for old acts.item acts.left _ _ acts.step.ordered
        acts.step.holds;
    fits_key = (ActsOnEntry-item fits rules stands_for old acts.item acts.left _ _
        acts.step.ordered acts.step.holds fit).1;
  }
  AnswersEntry-tells fits (Ok (EntryOrPlaceholder.Removed key value)) next new acts fit = tt
  AnswersEntry-tells fits (Ok (EntryOrPlaceholder.Replaced placeholder value)) next new acts fit =
      tt
  AnswersEntry-tells fits (Ok (EntryOrPlaceholder.ExistingPlaceholder placeholder)) next new meets
      fit = tt
  AnswersEntry-tells fits (Ok (EntryOrPlaceholder.NewPlaceholder placeholder)) next new makes fit =
      tt
  AnswersEntry-tells fits (Err refusal) next new none fit = tt

  -- where there is no item the callback is not called
  pub AnswersEntry-uncalled : (answer : Result (EntryOrPlaceholder K V W T) Refusal) (next : F)
      (new : CacheState K V)
      → AnswersEntry calls rules stands_for callback old own_ticket given hash answer next new
      → IfAbsent answer (next ≡ callback)
  AnswersEntry-uncalled (Ok (EntryOrPlaceholder.Kept told)) next new acts = tt
  AnswersEntry-uncalled (Ok (EntryOrPlaceholder.Removed key value)) next new acts = tt
  AnswersEntry-uncalled (Ok (EntryOrPlaceholder.Replaced placeholder value)) next new acts = tt
  AnswersEntry-uncalled (Ok (EntryOrPlaceholder.ExistingPlaceholder placeholder)) next new meets =
      meets.0
  AnswersEntry-uncalled (Ok (EntryOrPlaceholder.NewPlaceholder placeholder)) next new makes =
      makes.0
  AnswersEntry-uncalled (Err refusal) next new none = tt

  module _ (fits : K → V → Type 0) (fit : AllFit fits old) where
    -- what was done was chosen by the callback, which saw an item that fits
    was_chosen : (action : EntryAction T) (outcome : EntryOutcome) (gives : Item K V → V → Type 0)
        (next : F) (new : CacheState K V)
        → (acts : ActsAsChosen calls rules stands_for callback old action outcome gives next new)
        → Chooses (LeavesNow calls callback) fits stands_for action acts.item.key acts.left
    was_chosen action outcome gives next new acts = record {
      value = acts.item.value;
      called = (next, acts.called);
      stands = ActsOnEntry-stands rules stands_for old acts.item acts.left _ _ acts.step.ordered
          acts.step.holds;
      fits_key = (ActsOnEntry-item fits rules stands_for old acts.item acts.left _ _
          acts.step.ordered acts.step.holds fit).1;
    }

    -- what comes of an entry call is what the callback chose
    pub AnswersEntry-chosen : (answer : Result (EntryOrPlaceholder K V W T) Refusal) (next : F)
        (new : CacheState K V)
        → AnswersEntry calls rules stands_for callback old own_ticket given hash answer next new
        → DoesAsChosen (LeavesNow calls callback) fits stands_for (next ≡ callback) answer
    AnswersEntry-chosen (Ok (EntryOrPlaceholder.Kept told)) next new acts =
        (acts.item.key, acts.left, was_chosen _ _ _ next new acts)
    AnswersEntry-chosen (Ok (EntryOrPlaceholder.Removed key value)) next new acts =
        subst (λ k. Chooses (LeavesNow calls callback) fits stands_for EntryAction.Remove k value)
        (sym acts.given.0)
        (subst (λ v. Chooses (LeavesNow calls callback) fits stands_for EntryAction.Remove
        acts.item.key v)
        (sym acts.given.1) (was_chosen _ _ _ next new acts))
    AnswersEntry-chosen (Ok (EntryOrPlaceholder.Replaced placeholder value)) next new acts = (
      acts.item.key,
      subst (λ v. Chooses (LeavesNow calls callback) fits stands_for EntryAction.ReplaceWithGuard
          acts.item.key v)
          (sym acts.given.1) (was_chosen _ _ _ next new acts),
    )
    AnswersEntry-chosen (Ok (EntryOrPlaceholder.ExistingPlaceholder placeholder)) next new meets =
        meets.0
    AnswersEntry-chosen (Ok (EntryOrPlaceholder.NewPlaceholder placeholder)) next new makes =
        makes.0
    AnswersEntry-chosen (Err refusal) next new (inl acts) =
        inr record {
          key = acts.item.key;
          left = acts.left;
          chosen = was_chosen _ _ _ next new acts;
        }
    AnswersEntry-chosen (Err refusal) next new (inr none) = inl none.0
