-- For a function that makes lists of calls: what its contract says of the run is enough.
use Rattle.std.proofs.Common.{Bool, List, [], ◌∷◌, Result, Ok, Err, Vec, sym}
use Rattle.std.specs.Cmp.{IsEquivalence}
use Rattle.std.proofs.lemmas.List.{append-nil}
use Rattle.quick_cache_model.specs.CacheState.{CacheState, IsValid}
use Rattle.quick_cache_model.specs.Hooks.{Rules, Hooks}
use Rattle.quick_cache_model.specs.declared.calls.call.Call.{Call}
use Rattle.quick_cache_model.specs.declared.calls.reply.Reply.{Reply}
use Rattle.quick_cache_model.specs.CacheRun.{RunsCalls}
use Rattle.quick_cache_runs.specs.Conservation.{ConservesCalls}
use Rattle.quick_cache_runs.proofs.RunBooks.{CacheRun-conserves}

module _ {K V F M : Type 0} (rules : Rules K V) (equal : K → K → Bool)
    (laws : IsEquivalence equal) (shows_key : K → K → Type 0) (shows : V → V → Type 0)
    (answers : F → K → V → Bool) where
  pub RunsCalls-conserves : {S A : Type 0} (hooks : Hooks K V S) (old : CacheState K V) (first : S)
      (calls : List (Call K V F))
      (result : Result (Vec (Reply K V M) A) (Vec (Reply K V M) A × Vec (Call K V F) A))
      (new : CacheState K V) (last : S)
      → RunsCalls rules equal shows_key shows answers hooks old first calls result new last
      → IsValid equal old
      → ConservesCalls rules equal shows_key shows answers hooks old first calls result new last
  RunsCalls-conserves hooks old first calls (Ok replies) new last run valid = record {
    made = calls;
    unmade = [];
    parts = sym (append-nil calls);
    hook_calls = run.hook_calls;
    runs = run.runs;
    conserves = λ book of balanced. CacheRun-conserves rules equal laws shows_key shows answers old
        calls replies.items run.hook_calls new run.steps valid book of balanced;
  }
  RunsCalls-conserves hooks old first calls (Err back) new last run valid = record {
    made = run.made;
    unmade = run.unmade ∷ run.behind;
    parts = run.parts;
    hook_calls = run.runs.hook_calls;
    runs = run.runs.runs;
    conserves = λ book of balanced. CacheRun-conserves rules equal laws shows_key shows answers old
        run.made back.0.items run.runs.hook_calls new run.runs.steps valid book of balanced;
  }
