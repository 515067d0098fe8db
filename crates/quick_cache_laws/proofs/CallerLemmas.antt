-- For callers: what a run of `run` keeps, by the calls that it was handed. Where there was no room
-- for all replies, the calls that were made are a scan too.
use Rattle.std.proofs.Common.{◌≡◌, ℕ, Bool, true, List, [], ◌∷◌, ◌++◌, Result, Ok, Err, Vec, subst, ap}
use Rattle.std.specs.List.{AllByRecursion}
use Rattle.quick_cache_model.specs.CacheState.{CacheState}
use Rattle.quick_cache_model.specs.Hooks.{Rules, Hooks}
use Rattle.quick_cache_model.proofs.EachElement.{all-left}
use Rattle.quick_cache_model.specs.declared.calls.call.Call.{Call}
use Rattle.quick_cache_model.specs.declared.calls.reply.Reply.{Reply}
use Rattle.quick_cache_model.specs.CacheRun.{IsRun, RunsCalls}
use Rattle.quick_cache_laws.specs.Scans.{IsReadyForScan, IsApart, AreFresh, KeepsHot}
use Rattle.quick_cache_laws.proofs.Fronts.{not_empty, behind_first}
use Rattle.quick_cache_laws.proofs.Fresh.{fresh_is_scan}
use Rattle.quick_cache_laws.proofs.Runs.{run_keeps_hot, run_stays_ready}

-- the first of a list
abbrev first_or : {X : Type 0} → X → List X → X
first_or other [] = other
first_or other (x ∷ xs) = x

module _ {K V F : Type 0} (rules : Rules K V) (state : CacheState K V) where
  -- the first of fresh calls are fresh
  fresh_parts : (all calls behind : List (Call K V F)) → all ≡ calls ++ behind
      → AreFresh rules state all → AreFresh rules state calls
  fresh_parts all [] behind parts fresh = AreFresh.none
  fresh_parts _ (call ∷ calls) behind parts AreFresh.none =
      absurd (not_empty [] call (calls ++ behind) parts)
  fresh_parts _ (call ∷ calls) behind parts (AreFresh.gets key more absent fresh) =
      subst (λ (first : Call K V F). AreFresh rules state (first ∷ calls))
      (ap (first_or call) parts)
      (AreFresh.gets key calls absent (fresh_parts more calls behind (ap behind_first parts) fresh))
  fresh_parts _ (call ∷ calls) behind parts
      (AreFresh.inserts key value more nothing unpinned light fits apart fresh) =
      subst (λ (first : Call K V F). AreFresh rules state (first ∷ calls))
      (ap (first_or call) parts)
      (AreFresh.inserts key value calls nothing unpinned light fits
      (all-left (IsApart rules (rules.hash key)) calls behind
      (subst (AllByRecursion (IsApart rules (rules.hash key))) (ap behind_first parts) apart))
      (fresh_parts more calls behind (ap behind_first parts) fresh))

module _ {K V F R S : Type 0} (rules : Rules K V) (equal : K → K → Bool)
    (shows_key : K → K → Type 0) (shows : V → V → Type 0) (answers : F → K → V → Bool)
    (no_touch : (n : ℕ) → rules.may_count n → n ≡ 0)
    (same_hash : (one other : K) → equal one other ≡ true → rules.hash one ≡ rules.hash other)
    (hooks : Hooks K V S) where
  run_keeps : (old : CacheState K V) (first : S) (calls : List (Call K V F))
      (replies : List (Reply K V R)) (new : CacheState K V) (last : S)
      → IsRun rules equal shows_key shows answers hooks old first calls replies new last
      → IsReadyForScan rules old → AreFresh rules old calls
      → KeepsHot old new × IsReadyForScan rules new
  run_keeps old first calls replies new last run ready fresh =
      let scan = fresh_is_scan rules equal shows_key shows answers no_touch same_hash old calls
      replies run.hook_calls new run.steps ready fresh in (
        run_keeps_hot rules equal shows_key shows answers no_touch old calls replies run.hook_calls
            new run.steps ready scan,
        run_stays_ready rules equal shows_key shows answers no_touch old calls replies
            run.hook_calls new run.steps ready scan,
      )

  -- fresh calls, or those of them that were made, take no item out of the hot ring
  pub RunsCalls-keeps_hot : {A : Type 0} (old : CacheState K V) (first : S)
      (calls : List (Call K V F))
      (result : Result (Vec (Reply K V R) A) (Vec (Reply K V R) A × Vec (Call K V F) A))
      (new : CacheState K V) (last : S)
      → RunsCalls rules equal shows_key shows answers hooks old first calls result new last
      → IsReadyForScan rules old → AreFresh rules old calls
      → KeepsHot old new × IsReadyForScan rules new
  RunsCalls-keeps_hot old first calls (Ok replies) new last run ready fresh =
      run_keeps old first calls replies.items new last run ready fresh
  RunsCalls-keeps_hot old first calls (Err back) new last run ready fresh =
      run_keeps old first run.made back.0.items new last run.runs ready
      (fresh_parts rules old calls run.made (run.unmade ∷ run.behind) run.parts fresh)
