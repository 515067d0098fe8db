-- Every run from a valid state keeps its pairs.
use Rattle.std.proofs.Common.{Bool, List, [], ◌++◌, subst, sym}
use Rattle.std.specs.Cmp.{IsEquivalence}
use Rattle.quick_cache_model.specs.CacheState.{CacheState, IsValid}
use Rattle.quick_cache_model.specs.Hooks.{Rules, HookCall}
use Rattle.quick_cache_model.specs.declared.calls.call.Call.{Call}
use Rattle.quick_cache_model.specs.declared.calls.reply.Reply.{Reply}
use Rattle.quick_cache_model.specs.CacheRun.{CacheRun}
use Rattle.quick_cache_runs.specs.Books.{Book, IsBookOf, IsBalanced}
use Rattle.quick_cache_runs.specs.Conservation.{NumberedRun, Conserves, IsLastOf}
use Rattle.quick_cache_model.specs.Fates.{residents}
use Rattle.quick_cache_runs.specs.Fates.{last_written}
use Rattle.quick_cache_runs.proofs.Books.{Follows-balanced, Leads-led}
use Rattle.quick_cache_runs.proofs.Steps.{CacheStep-booked}
use Rattle.quick_cache_runs.proofs.Values.{last_written-append}

module _ {K V F M : Type 0} (rules : Rules K V) (equal : K → K → Bool)
    (laws : IsEquivalence equal) (shows_key : K → K → Type 0) (shows : V → V → Type 0)
    (answers : F → K → V → Bool) where
  pub CacheRun-conserves : (old : CacheState K V) (calls : List (Call K V F))
      (replies : List (Reply K V M)) (hook_calls : List (HookCall K V)) (new : CacheState K V)
      → CacheRun rules equal shows_key shows answers old calls replies hook_calls new
      → IsValid equal old → (first : Book K V) → IsBookOf old first → IsBalanced first
      → Conserves rules equal shows_key shows answers old first calls replies hook_calls new
  CacheRun-conserves _ _ _ _ _ (CacheRun.ends state) valid first of balanced = record {
    last = first;
    fates = [];
    run = NumberedRun.stops state first of;
    of_residents = of;
    balanced = balanced;
    values = λ key value last. last;
  }
  CacheRun-conserves _ _ _ _ _
      (CacheRun.goes_on old mid new call reply calls replies hook_calls more step run) valid first
      of balanced =
      let here = CacheStep-booked rules equal laws shows_key shows answers old valid call reply
      hook_calls mid step in
      let led = Leads-led here.told.leads first of in
      let rest = CacheRun-conserves mid calls replies more new run here.told.valid led.last led.of
      (Follows-balanced led.follows balanced) in
      record {
        last = rest.last;
        fates = here.fates ++ rest.fates;
        run = NumberedRun.goes_on old mid new first led.last rest.last call reply calls replies
            hook_calls more here.fates rest.fates of step here.befalls led.follows rest.run;
        of_residents = rest.of_residents;
        balanced = rest.balanced;
        values = λ key value last.
            subst (λ all. IsLastOf (equal key) all (residents new))
            (sym (last_written-append (equal key) value here.fates rest.fates))
            (rest.values key (last_written (equal key) value here.fates)
            (here.told.last key value last));
      }
