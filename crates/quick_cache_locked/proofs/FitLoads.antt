-- Loads keep every value fitting its key.
use Rattle.std.proofs.Common.{ℕ, Bool, true, false, List, ◌∷◌, ◌++◌, Option, Some, None, Result, Ok, Err, subst}
use Rattle.quick_cache_model.specs.declared.refusal.Refusal.{Refusal}
use Rattle.std.specs.List.{AllByRecursion}
use Rattle.quick_cache_model.specs.declared.terms.lifecycle.Lifecycle as lifecycle
use Rattle.quick_cache_model.specs.CacheState.{CacheState, Item, LoadingEntry}
use Rattle.quick_cache_model.specs.Hooks.{Rules, Hooks, Calls}
use Rattle.quick_cache_model.specs.Lookups.{LooksUp, after_hit, looked_up}
use Rattle.quick_cache_model.specs.Placeholders.{MakesPlaceholder, MeetsPlaceholder, GivesUpPlaceholder, IsLoadingTicket}
use Rattle.quick_cache_model.proofs.EachElement.{all-instead}
use Rattle.quick_cache_shard.specs.Copies.{IsCopyFound}
use Rattle.quick_cache_shard.specs.Filling.{AnswersFill}
use Rattle.quick_cache_shard.specs.Loading.{BeginsLoad, IsMadeOrMet}
use Rattle.quick_cache_shard.specs.Lifecycles.{hooks_by}
use Rattle.quick_cache_locked.specs.Fitting.{FitsIn, AllFit, ClonesFit, FitsQuery}
use Rattle.quick_cache_locked.specs.Loads.{EndsLoad}
use Rattle.quick_cache_locked.proofs.FitRemovals.{AllFit-same, AllFit-stepped}
use Rattle.quick_cache_locked.proofs.TicketLemmas.{awaits_none}
use Rattle.quick_cache_model.proofs.Fitting.{RunsHooks-fits, TellsBeside-fits}
use Rattle.quick_cache_locked.proofs.FitLemmas.{AllFit-at, AllFit-with, SameButOrder-fits}
use Rattle.quick_cache_locked.proofs.FitWrites.{IsItemAt-fits}

module _ {K V : Type 0} (fits : K → V → Type 0) where
  -- a look-up writes no value
  pub LooksUp-fits : (stands_for : K → Bool) (old : CacheState K V) (answer : Option V)
      (new : CacheState K V) → LooksUp stands_for old (λ item. item.value) answer new
      → AllFit fits old → AllFit fits new
  LooksUp-fits stands_for old _ _ (LooksUp.hit place before item after there) fit =
      AllFit-with fits place (before ++ looked_up old.mark_cut item ∷ after) (after_hit old)
      (all-instead (FitsIn fits) before item (looked_up old.mark_cut item) after
      (IsItemAt-fits fits stands_for old place before item after there fit)
      (subst (λ (xs : List (Item K V)). AllByRecursion (FitsIn fits) xs) there.split
      (AllFit-at fits place old fit)))
      (record { hot = fit.hot; cold = fit.cold; still = fit.still })
  LooksUp-fits stands_for old _ _ (LooksUp.miss none) fit =
      record { hot = fit.hot; cold = fit.cold; still = fit.still }

  -- nor does a placeholder that is made, met or given up
  pub MakesPlaceholder-fits : (stands_for : K → Bool) (old : CacheState K V) (hash : ℕ) (key : K)
      (new : CacheState K V) → MakesPlaceholder stands_for old hash key new
      → AllFit fits old → AllFit fits new
  MakesPlaceholder-fits stands_for old hash key _ (MakesPlaceholder.on_nothing stands nothing) fit =
      record { hot = fit.hot; cold = fit.cold; still = fit.still }
  MakesPlaceholder-fits stands_for old hash key _ (MakesPlaceholder.on_ghost before after stands
      there) fit = record { hot = fit.hot; cold = fit.cold; still = fit.still }

  pub MeetsPlaceholder-fits : (stands_for : K → Bool) (old : CacheState K V) (ticket : ℕ)
      (new : CacheState K V) → MeetsPlaceholder stands_for old ticket new
      → AllFit fits old → AllFit fits new
  MeetsPlaceholder-fits stands_for old _ _ (MeetsPlaceholder.is_there before entry after there)
      fit = record { hot = fit.hot; cold = fit.cold; still = fit.still }

  pub GivesUpPlaceholder-fits : (ticket : ℕ) (old new : CacheState K V)
      → GivesUpPlaceholder ticket old new → AllFit fits old → AllFit fits new
  GivesUpPlaceholder-fits ticket old _ (GivesUpPlaceholder.was_there before entry after there) fit =
      record { hot = fit.hot; cold = fit.cold; still = fit.still }
  GivesUpPlaceholder-fits ticket old _ (GivesUpPlaceholder.was_gone none) fit = fit

  -- nor one that is the answer of a look-up
  pub AllFit-begun : (stands_for : K → Bool) (gives : K → Type 0) (hash : ℕ)
      (old new : CacheState K V) (made : Bool) (ticket : ℕ)
      → IsMadeOrMet stands_for gives hash old made ticket new → AllFit fits old → AllFit fits new
  AllFit-begun stands_for gives hash old new true ticket made fit =
      SameButOrder-fits fits made.step.ordered new made.step.same
      (MakesPlaceholder-fits stands_for old hash made.key made.step.ordered made.step.holds fit)
  AllFit-begun stands_for gives hash old new false ticket met fit =
      SameButOrder-fits fits met.ordered new met.same
      (MeetsPlaceholder-fits stands_for old ticket met.ordered met.holds fit)

-- behind a lock, a fill with a value that fits the key of the placeholder leaves values that fit
pub AllFit-filled : {K V L S : Type 0} (life : lifecycle.Ghosts L K V S)
    → ((l : L) (was : S) (k : K) (v : V) (now : S) (left : V)
    → life.before_evict_gives l was k v now left → life.fits k v → life.fits k left)
    → (l : L) (old new : CacheState K V) (rules : Rules K V) (ticket : ℕ) (marked : Bool)
    (value : V) (answer : Result (Unit {0}) V) (first last : S)
    → Calls (hooks_by life l)
    (AnswersFill (life.steady l) ticket old rules marked value answer new) first last
    → ((before : List (LoadingEntry K)) (entry : LoadingEntry K) (after : List (LoadingEntry K))
    → IsLoadingTicket ticket old before entry after → life.fits entry.key value)
    → AllFit life.fits old → AllFit life.fits new
AllFit-filled life keeps l old new rules ticket marked value (Ok done) first last filled is fit =
    let fills = filled.holds in
    TellsBeside-fits life.fits fills.entry.key value old new filled.calls None
    (RunsHooks-fits life.fits (hooks_by life l) (keeps l) filled.calls first last filled.runs)
    fills.tells (is fills.before fills.entry fills.after fills.there) fit
AllFit-filled life keeps l old new rules ticket marked value (Err back) first last filled is fit =
    AllFit-same life.fits old new filled.holds.unchanged fit

-- the answer of a fill is that of a load that ends
pub EndsLoad-filled : {K V S : Type 0} (steady : Type 0) (hooks : Hooks K V S) (rules : Rules K V)
    (equal : K → K → Bool) (ticket : ℕ) (old : CacheState K V) (marked : Bool) (key : K) (value : V)
    (first last : S) (answer : Result (Unit {0}) V) (new : CacheState K V)
    → Calls hooks (AnswersFill steady ticket old rules marked value answer new) first last
    → EndsLoad steady hooks rules equal ticket old marked key value first answer new last
EndsLoad-filled steady hooks rules equal ticket old marked key value first last (Ok done) new filled
    = filled
EndsLoad-filled steady hooks rules equal ticket old marked key value first last (Err back) new filled
    = (
      awaits_none equal ticket key old filled.holds.gone,
      filled.holds.value_back,
      filled.holds.unchanged,
      rw filled.holds.no_hook at filled.runs,
    )

module _ {K V : Type 0} (fits : K → V → Type 0) (stands_for : K → Bool)
    (old new : CacheState K V) where
  -- the clone of a value that was looked up fits, where clones do
  pub IsCopyFound-fits : (is_clone : V → V → Type 0) (copy : V)
      → IsCopyFound stands_for is_clone old copy new → AllFit fits old → ClonesFit fits is_clone
      → FitsQuery fits stands_for copy
  IsCopyFound-fits is_clone copy found fit clones =
      go found.value found.looks.ordered found.looks.holds found.cloned
    where
      go : (value : V) (next : CacheState K V)
          → LooksUp stands_for old (λ item. item.value) (Some value) next → is_clone value copy
          → FitsQuery fits stands_for copy
      go _ _ (LooksUp.hit place before item after there) cloned = record {
        key = item.key;
        stands = there.passes;
        fits_key = clones item.key item.value copy cloned
            (IsItemAt-fits fits stands_for old place before item after there fit);
      }

  module _ {P : Type 0} (own_ticket : P → ℕ) (gives : K → Type 0) (hash : ℕ)
      (is_clone : V → V → Type 0) where
    -- a load that begins leaves values that fit
    pub AllFit-begins : (answer : Result (Result V P) Refusal)
        → BeginsLoad own_ticket stands_for gives hash is_clone old answer new
        → AllFit fits old → AllFit fits new
    AllFit-begins _ (BeginsLoad.finds copy _ found) fit =
        AllFit-stepped fits old new found.looks
        (λ next holds. LooksUp-fits fits stands_for old (Some found.value) next holds) fit
    AllFit-begins _ (BeginsLoad.lacks_a_clone refusal _ none) fit =
        AllFit-same fits old new none.unchanged fit
    AllFit-begins _ (BeginsLoad.makes_or_meets made placeholder _ begun) fit =
        AllFit-begun fits stands_for gives hash old new made (own_ticket placeholder) begun fit
    AllFit-begins _ (BeginsLoad.makes_none refusal _ none) fit =
        AllFit-same fits old new none.unchanged fit

    -- and what it found fits
    pub found-fits : (copy : V)
        → BeginsLoad own_ticket stands_for gives hash is_clone old (Ok (Ok copy)) new
        → AllFit fits old → ClonesFit fits is_clone → FitsQuery fits stands_for copy
    found-fits _ (BeginsLoad.finds copy _ found) fit clones =
        IsCopyFound-fits is_clone copy found fit clones
