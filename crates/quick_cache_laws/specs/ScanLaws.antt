-- Laws of scans.
use Rattle.std.specs.Prelude.{◌≡◌, ℕ, Bool, true, List}
use Rattle.quick_cache_model.specs.CacheState.{CacheState}
use Rattle.quick_cache_model.specs.Hooks.{Rules, HookCall}
use Rattle.quick_cache_model.specs.declared.calls.call.Call.{Call}
use Rattle.quick_cache_model.specs.declared.calls.reply.Reply.{Reply}
use Rattle.quick_cache_model.specs.CacheRun.{CacheRun}
use Rattle.quick_cache_laws.specs.Scans.{AtEachTurn, IsReadyForScan, IsScanCall, KeepsHot, ScansRings, AreFresh}

module _ (K V F M : Type 0) (equal : K → K → Bool) (shows_key : K → K → Type 0)
    (shows : V → V → Type 0) where
  -- Whatever the rules of a cache for one thread are, where no reader leaves touches, and whatever
  -- predicates answer: a law of runs from a state that is ready for a scan.
  abbrev pub OfRuns : ((rules : Rules K V) (answers : F → K → V → Bool) (old : CacheState K V)
      (calls : List (Call K V F)) (replies : List (Reply K V M)) (hook_calls : List (HookCall K V))
      (new : CacheState K V)
      → CacheRun rules equal shows_key shows answers old calls replies hook_calls new → Type 0)
      → Type 0
  OfRuns P =
      (hash : K → ℕ) (weight : K → V → ℕ) (pinned : K → V → Bool) (answers : F → K → V → Bool)
      → let rules : Rules K V = record {
        hash = hash;
        weight = weight;
        pinned = pinned;
        may_count = λ n. n ≡ 0;
      } in
      (old : CacheState K V) (calls : List (Call K V F)) (replies : List (Reply K V M))
      (hook_calls : List (HookCall K V)) (new : CacheState K V)
      (run : CacheRun rules equal shows_key shows answers old calls replies hook_calls new)
      → IsReadyForScan rules old → P rules answers old calls replies hook_calls new run

  -- each call of the run is one of a scan at its turn
  abbrev pub IsScan : (rules : Rules K V) (answers : F → K → V → Bool) {old : CacheState K V}
      {calls : List (Call K V F)} {replies : List (Reply K V M)} {hook_calls : List (HookCall K V)}
      {new : CacheState K V}
      → CacheRun rules equal shows_key shows answers old calls replies hook_calls new → Type 0
  IsScan rules answers run = AtEachTurn rules equal shows_key shows answers
      (λ state call reply next. IsScanCall rules equal state call) run

  -- in a scan no item leaves the hot ring
  abbrev pub ScansKeepHot : Type 0
  ScansKeepHot = OfRuns (λ rules answers old calls replies hook_calls new run.
      IsScan rules answers run → KeepsHot old new)

  -- each insert that is not refused takes out of the cold ring the shortest front that makes room,
  -- and no other call takes out anything
  abbrev pub ScansTakeFronts : Type 0
  ScansTakeFronts = OfRuns (λ rules answers old calls replies hook_calls new run.
      IsScan rules answers run → AtEachTurn rules equal shows_key shows answers
      (λ state call reply next. ScansRings rules state call reply next) run)

  -- another scan may follow
  abbrev pub ScansStayReady : Type 0
  ScansStayReady = OfRuns (λ rules answers old calls replies hook_calls new run.
      IsScan rules answers run → IsReadyForScan rules new)

  -- A list of calls with fresh hashes is a scan in each run of it. Equal keys have equal hashes.
  abbrev pub FreshCallsAreScans : Type 0
  FreshCallsAreScans = OfRuns (λ rules answers old calls replies hook_calls new run.
      ((one other : K) → equal one other ≡ true → rules.hash one ≡ rules.hash other)
      → AreFresh rules old calls → IsScan rules answers run)
