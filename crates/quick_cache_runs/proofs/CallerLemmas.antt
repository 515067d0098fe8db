-- For callers: what a list of calls asks for is met where it always is, and what a run may show is
-- what the relations say, and more by wider ones.
use Rattle.std.proofs.Common.{Bool, List, [], ◌∷◌, Some, None, Result, Ok, Err, Vec}
use Rattle.std.specs.List.{All}
use Rattle.std.specs.Prelude.{IfSome, Option}
use Rattle.std.proofs.lemmas.List.Elements.{All-nil, All-cons, All-head, All-tail}
use Rattle.quick_cache_model.specs.CacheState.{CacheState}
use Rattle.quick_cache_model.specs.Hooks.{Rules, Hooks}
use Rattle.quick_cache_model.specs.declared.calls.call.Call.{Call}
use Rattle.quick_cache_model.specs.declared.calls.reply.Reply.{Reply}
use Rattle.quick_cache_model.specs.CacheRun.{IsRun, RunsCalls}
use Rattle.quick_cache_model.proofs.ShownLemmas.{CacheRun-wider}
use Rattle.quick_cache_runs.specs.Asked.{IfAsks, IfLoads, predicate_of}

-- what holds of each predicate holds of one that is asked
asked_meets : {F : Type 0} (P : F → Type 0) → ((asked : F) → P asked) → (asked : Option F)
    → IfSome asked P
asked_meets P is None = tt
asked_meets P is (Some asked) = is asked

asked_none : {F : Type 0} (P : F → Type 0) (asked : Option F) → IfSome asked (λ any. ⊥)
    → IfSome asked P
asked_none P None none = tt
asked_none P (Some asked) none = absurd none

module _ {K V F : Type 0} where
  -- what holds anyhow holds of a call that loads
  load_meets : {P : Type 0} → P → (call : Call K V F) → IfLoads P call
  load_meets is (Call.Insert key value) = tt
  load_meets is (Call.Replace key value soft) = tt
  load_meets is (Call.Get key) = tt
  load_meets is (Call.Peek key) = tt
  load_meets is (Call.GetMut key value) = tt
  load_meets is (Call.PeekMut key value) = tt
  load_meets is (Call.Contains key) = tt
  load_meets is (Call.Stats key) = tt
  load_meets is (Call.Remove key) = tt
  load_meets is (Call.RemoveIf key wanted) = tt
  load_meets is (Call.Load key given) = is
  load_meets is (Call.LoadMut key given left) = is
  load_meets is (Call.Guarded key given) = is
  load_meets is (Call.GuardedMut key given left) = is
  load_meets is Call.Iter = tt
  load_meets is Call.Drain = tt
  load_meets is Call.Counts = tt
  load_meets is (Call.Retain keep) = tt
  load_meets is (Call.SetCapacity capacity) = tt
  load_meets is (Call.Reserve additional) = tt
  load_meets is Call.Clear = tt

  -- where no predicate is asked, anything holds of those that are
  pub none_asked : (P : F → Type 0) (calls : List (Call K V F)) → All (IfAsks (λ asked. ⊥)) calls
      → All (IfAsks P) calls
  none_asked P [] none = All-nil (IfAsks P)
  none_asked P (call ∷ calls) none =
      All-cons (IfAsks P) call calls
      (asked_none P (predicate_of call) (All-head (IfAsks (λ asked. ⊥)) call calls none))
      (none_asked P calls (All-tail (IfAsks (λ asked. ⊥)) call calls none))

module _ {K V F R S : Type 0} (shows_key other_key : K → K → Type 0) (shows other : V → V → Type 0)
    (wider_key : (k l : K) → shows_key k l → other_key k l)
    (wider : (v w : V) → shows v w → other v w) (rules : Rules K V) (equal : K → K → Bool)
    (answers : F → K → V → Bool) (hooks : Hooks K V S) (old : CacheState K V) (first : S) where
  IsRun-wider : {calls : List (Call K V F)} {replies : List (Reply K V R)} {new : CacheState K V}
      {last : S}
      → IsRun rules equal shows_key shows answers hooks old first calls replies new last
      → IsRun rules equal other_key other answers hooks old first calls replies new last
  IsRun-wider run = record {
    hook_calls = run.hook_calls;
    steps = CacheRun-wider shows_key other_key shows other wider_key wider rules equal answers
        run.steps;
    runs = run.runs;
  }

  pub RunsCalls-wider : {A : Type 0} (calls : List (Call K V F))
      (answer : Result (Vec (Reply K V R) A) (Vec (Reply K V R) A × Vec (Call K V F) A))
      (new : CacheState K V) (last : S)
      → RunsCalls rules equal shows_key shows answers hooks old first calls answer new last
      → RunsCalls rules equal other_key other answers hooks old first calls answer new last
  RunsCalls-wider calls (Ok replies) new last run = IsRun-wider run
  RunsCalls-wider calls (Err back) new last stops = record {
    made = stops.made;
    unmade = stops.unmade;
    behind = stops.behind;
    parts = stops.parts;
    comes_back = stops.comes_back;
    runs = IsRun-wider stops.runs;
    is_full = stops.is_full;
  }
