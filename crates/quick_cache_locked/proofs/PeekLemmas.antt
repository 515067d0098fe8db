-- Looks and shared look-ups, which clone what they find.
use Rattle.std.proofs.Common.{◌≡◌, Bool, true≢false, Option, Some, None, Result, Ok, Err, sym, subst}
use Rattle.std.specs.Prelude.{IsSome, IfSome, IfOk, IfErr}
use Rattle.quick_cache_model.specs.declared.refusal.Refusal.{Refusal}
use Rattle.quick_cache_model.specs.CacheState.{CacheState}
use Rattle.quick_cache_model.specs.Lookups.{Sees}
use Rattle.quick_cache_model.specs.Shown.{IsShown}
use Rattle.quick_cache_shard.specs.Shard.{HasItem}
use Rattle.quick_cache_shard.specs.Shared.{ShowsClone}
use Rattle.quick_cache_locked.specs.Peeks.{Peeks}
use Rattle.quick_cache_locked.specs.Fitting.{AllFit, ClonesFit, FitsQuery}
use Rattle.quick_cache_locked.proofs.FitWrites.{IsItemAt-fits}

module _ {K V : Type 0} (stands_for : K → Bool) (is_clone : V → V → Type 0)
    (old : CacheState K V) where
  -- the clone of what was seen failed
  pub Peeks-refused : (seen : Option V) → Sees stands_for old (λ item. item.value) seen
      → IsSome seen → Peeks stands_for is_clone old (Err Refusal.Memory)
  Peeks-refused _ (Sees.is_there place before item after there) is_some =
      Peeks.refuses place before item after there
  Peeks-refused _ (Sees.is_absent none) is_some = absurd (true≢false (sym is_some))

  -- a look-up beside other readers answers as a look does
  pub Peeks-cloned : (answer : Result (Option V) Refusal)
      → IfOk answer (ShowsClone stands_for is_clone old)
      → IfErr answer (λ refusal. refusal ≡ Refusal.Memory)
      → IfErr answer (λ _. HasItem stands_for old)
      → Peeks stands_for is_clone old answer
  Peeks-cloned (Ok None) none refused there = Peeks.peeks None None (Sees.is_absent none) tt
  Peeks-cloned (Ok (Some clone)) shows refused there =
      Peeks.peeks (Some shows.value) (Some clone) shows.seen shows.cloned
  Peeks-cloned (Err refusal) shows refused there =
      subst (λ r. Peeks stands_for is_clone old (Err r)) (sym refused)
      (Peeks.refuses there.place there.before there.item there.after there.at)

  -- what is shown is a clone of a value that fits
  pub Peeks-fits : (fits : K → V → Type 0) (answer : Result (Option V) Refusal)
      → Peeks stands_for is_clone old answer → AllFit fits old → ClonesFit fits is_clone
      → IfOk answer (λ found. IfSome found (λ value. FitsQuery fits stands_for value))
  Peeks-fits fits _ (Peeks.refuses place before item after there) fit clones = tt
  Peeks-fits fits _ (Peeks.peeks found shown sees is) fit clones = go found shown sees is
    where
      go : (was now : Option V) → Sees stands_for old (λ item. item.value) was
          → IsShown is_clone was now
          → IfSome now (λ value. FitsQuery fits stands_for value)
      go _ None sees shows = tt
      go _ (Some value) (Sees.is_there place before item after there) shows = record {
        key = item.key;
        stands = there.passes;
        fits_key = clones item.key item.value value shows
            (IsItemAt-fits fits stands_for old place before item after there fit);
      }
      go _ (Some value) (Sees.is_absent none) shows = absurd shows
