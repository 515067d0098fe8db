-- Runs that are scans, turn by turn.
use Rattle.std.proofs.Common.{◌≡◌, ℕ, Bool, List, [], ◌++◌, map, sym, ap, ◌∙◌, append_assoc, append-nil}
use Rattle.quick_cache_model.specs.CacheState.{CacheState}
use Rattle.quick_cache_model.specs.Hooks.{Rules, HookCall}
use Rattle.quick_cache_model.specs.declared.calls.call.Call.{Call}
use Rattle.quick_cache_model.specs.declared.calls.reply.Reply.{Reply}
use Rattle.quick_cache_model.specs.CacheRun.{CacheRun}
use Rattle.quick_cache_laws.specs.Scans.{AtEachTurn, IsReadyForScan, IsScanCall, unused, KeepsHot, ScansRings}
use Rattle.quick_cache_laws.proofs.Turns.{turn, turn_keeps_hot}

module _ {K V : Type 0} where
  -- what is kept by one and by the next is kept by both
  KeepsHot-trans : (old mid new : CacheState K V) → KeepsHot old mid → KeepsHot mid new
      → KeepsHot old new
  KeepsHot-trans old mid new a b = record {
    others = a.others ++ b.others;
    kept = b.kept ∙ ap (λ items. items ++ b.others) a.kept
        ∙ append_assoc (map unused old.hot) a.others b.others;
  }

module _ {K V F M : Type 0} (rules : Rules K V) (equal : K → K → Bool)
    (shows_key : K → K → Type 0) (shows : V → V → Type 0) (answers : F → K → V → Bool)
    (none : (n : ℕ) → rules.may_count n → n ≡ 0) where
  -- a run, and one that is a scan at each turn
  abbrev Run : CacheState K V → List (Call K V F) → List (Reply K V M) → List (HookCall K V)
      → CacheState K V → Type 0
  Run = CacheRun rules equal shows_key shows answers

  abbrev IsScan : {old : CacheState K V} {calls : List (Call K V F)} {replies : List (Reply K V M)}
      {hook_calls : List (HookCall K V)} {new : CacheState K V}
      → Run old calls replies hook_calls new → Type 0
  IsScan run = AtEachTurn rules equal shows_key shows answers
      (λ state call reply next. IsScanCall rules equal state call) run

  -- what it does at each turn
  pub rings_at_each_turn : (old : CacheState K V) (calls : List (Call K V F))
      (replies : List (Reply K V M)) (hook_calls : List (HookCall K V)) (new : CacheState K V)
      (run : Run old calls replies hook_calls new) → IsReadyForScan rules old
      → IsScan run → AtEachTurn rules equal shows_key shows answers
      (λ state call reply next. ScansRings rules state call reply next) run
  rings_at_each_turn _ _ _ _ _ (CacheRun.ends state) ready scan = tt
  rings_at_each_turn _ _ _ _ _
      (CacheRun.goes_on old mid new call reply calls replies first rest step run) ready scan =
      let one = turn rules equal shows_key shows answers none old call reply first mid step scan.0
      ready in
      (one.0, rings_at_each_turn mid calls replies rest new run one.1 scan.1)

  -- no item leaves the hot ring
  pub run_keeps_hot : (old : CacheState K V) (calls : List (Call K V F))
      (replies : List (Reply K V M)) (hook_calls : List (HookCall K V)) (new : CacheState K V)
      (run : Run old calls replies hook_calls new) → IsReadyForScan rules old
      → IsScan run → KeepsHot old new
  run_keeps_hot _ _ _ _ _ (CacheRun.ends state) ready scan =
      record { others = []; kept = sym (append-nil (map unused state.hot)) }
  run_keeps_hot _ _ _ _ _
      (CacheRun.goes_on old mid new call reply calls replies first rest step run) ready scan =
      let one = turn rules equal shows_key shows answers none old call reply first mid step scan.0
      ready in
      KeepsHot-trans old mid new
      (turn_keeps_hot rules equal shows_key shows answers none old call reply mid one.0)
      (run_keeps_hot mid calls replies rest new run one.1 scan.1)

  -- and another scan may follow
  pub run_stays_ready : (old : CacheState K V) (calls : List (Call K V F))
      (replies : List (Reply K V M)) (hook_calls : List (HookCall K V)) (new : CacheState K V)
      (run : Run old calls replies hook_calls new) → IsReadyForScan rules old
      → IsScan run → IsReadyForScan rules new
  run_stays_ready _ _ _ _ _ (CacheRun.ends state) ready scan = ready
  run_stays_ready _ _ _ _ _
      (CacheRun.goes_on old mid new call reply calls replies first rest step run) ready scan =
      run_stays_ready mid calls replies rest new run
      (turn rules equal shows_key shows answers none old call reply first mid step scan.0 ready).1
      scan.1
