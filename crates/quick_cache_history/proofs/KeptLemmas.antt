-- A shard that stands at the end of its calls, and one call more.
use Rattle.std.proofs.Common.{◌≡◌, ℕ, Bool, List, [], ◌∷◌, ◌++◌, Option, None, Result, Ok, Err, is_some, refl, sym, subst}
use Rattle.std.specs.declared.alloc.Global.{Global}
use Rattle.quick_cache_model.specs.CacheState.{CacheState, UpToOrder}
use Rattle.quick_cache_model.specs.CacheStep.{CacheStep}
use Rattle.quick_cache_model.specs.Hooks.{Rules, Hooks}
use Rattle.quick_cache_model.specs.Removal.{Removes, RemovesIf, cleared}
use Rattle.quick_cache_model.specs.Shown.{IsItself}
use Rattle.quick_cache_model.specs.Writes.{Insert as insertion}
use Rattle.quick_cache_model.specs.declared.calls.call.Call.{Call}
use Rattle.quick_cache_model.specs.declared.calls.reply.Reply.{Reply}
use Rattle.quick_cache_locked.specs.Touches.{any_touches}
use Rattle.quick_cache_policy.specs.declared.policy.Terms.{Terms}
use Rattle.quick_cache_policy.specs.Predicates.{RemovesAsked}
use Rattle.quick_cache_policy.specs.Replaces.{Replaces}
use Rattle.quick_cache_shard.specs.Shard.{Shard, Wrote, terms_of}
use Rattle.quick_cache_shard.specs.Steps.{Goes, steady_in, hooks_in, rules_in}
use Rattle.quick_cache_history.specs.declared.entry.Entry.{Entry}
use Rattle.quick_cache_history.specs.Histories.{first_in, calls_of, reply_of_replace}
use Rattle.quick_cache_history.specs.KeptShards.{HasMade, StandsAtEnd}
use Rattle.quick_cache_history.specs.Runs.{AreTold, IsStep, Lead, as_answered}

module _ {K V We B L S : Type 0} (goes : Goes K V We B L S) (is_default : S → Type 0)
    (equal : K → K → Bool) (number : ℕ) (log : List (Entry K V)) where
  -- a run of these calls from that state, by the rules and the hooks of such terms
  abbrev Runs : (state : CacheState K V) → Terms We B L × CacheState K V × List (Entry K V) → Type 0
  Runs state x = Lead ((goes x.0).rules any_touches) equal (goes x.0).hooks is_default x.1 x.2 state

  -- before the first call
  pub StandsAtEnd-begins : (shard : Shard K V We B L) → calls_of number log ≡ []
      → shard.state ≡ first_in log → StandsAtEnd goes is_default equal number log shard
  StandsAtEnd-begins shard none empty steady = subst
      (λ (x : CacheState K V × List (Entry K V)). Lead (rules_in goes any_touches shard) equal
      (hooks_in goes shard) is_default (first_in log) x.1 x.0)
      (λ i. (sym empty i, sym none i)) Lead.begins

  module _ (new : List (Entry K V)) (first : first_in new ≡ first_in log)
      (old left : Shard K V We B L) (same : terms_of left ≡ terms_of old)
      (stands : StandsAtEnd goes is_default equal number log old) where
    -- where no call more of the shard is there, it stands where it stood
    pub StandsAtEnd-same : calls_of number new ≡ calls_of number log → left.state ≡ old.state
        → StandsAtEnd goes is_default equal number new left
    StandsAtEnd-same calls state steady = subst (λ s. Runs s (terms_of left, first_in new, calls_of number new)) (sym state)
        (subst (Runs old.state) (λ i. (sym same i, sym first i, sym calls i))
        (stands (subst (λ terms. (goes terms).steady) same steady)))

  -- and where one more is, which it made, it stands at the end of that
  pub StandsAtEnd-push : (new : List (Entry K V)) (left : Shard K V We B L) (entry : Entry K V)
      → first_in new ≡ first_in log → calls_of number new ≡ calls_of number log ++ entry ∷ []
      → HasMade goes is_default equal number log entry left
      → StandsAtEnd goes is_default equal number new left
  StandsAtEnd-push new left entry first calls made steady =
      let was : steady_in goes made.old = subst (λ terms. (goes terms).steady) made.same steady in
      subst (Runs left.state) (λ i. (sym made.same i, sym first i, sym calls i))
      (Lead.goes_on (calls_of number log) made.old.state entry left.state (made.stood was)
      (made.step was))

module _ {K V S : Type 0} (rules : Rules K V) (equal : K → K → Bool) (hooks : Hooks K V S)
    (is_default : S → Type 0) (old new : CacheState K V) (turn next shard : ℕ) where
  -- an insert that was written is a step of its definition
  pub inserts : (steady : Type 0) → steady → (key : K) (value : V) (first last : S)
      → is_default first → Wrote steady hooks rules equal insertion old first key value None new last
      → IsStep rules equal hooks is_default old
      (Entry.Made turn next shard (Call.Insert key value) Reply.Done) new
  inserts steady is_steady key value first last begins wrote = record {
    hook_calls = wrote.step.calls;
    step = CacheStep.inserts key value wrote.step.calls new wrote.provided
        (wrote.step.holds.0 is_steady);
    told = AreTold.some wrote.step.calls first last begins wrote.step.runs;
  }

  -- and so is a removal
  pub removes : (key : K) (pair : Option (K × V))
      → UpToOrder (Removes (equal key) old (rules.hash key) pair) new
      → IsStep rules equal hooks is_default old
      (Entry.Made turn next shard (Call.Remove key) (Reply.Pair pair)) new
  removes key pair step = record {
    hook_calls = [];
    step = CacheStep.removes key pair new step;
    told = AreTold.none;
  }

  -- a replace answers as its definition says
  pub replaces : (steady : Type 0) → steady → (soft : Bool) (key : K) (value : V)
      (answer : Result (Unit {0}) (K × V)) (first last : S) → is_default first
      → Replaces steady hooks rules equal old soft first key value answer new last
      → IsStep rules equal hooks is_default old
      (Entry.Made turn next shard (Call.Replace key value soft) (reply_of_replace answer)) new
  replaces steady is_steady soft key value (Ok done) first last begins wrote = record {
    hook_calls = wrote.step.calls;
    step = CacheStep.replaces key value soft wrote.step.calls new (wrote.step.holds.0 is_steady);
    told = AreTold.some wrote.step.calls first last begins wrote.step.runs;
  }
  replaces steady is_steady soft key value (Err back) first last begins wrote = record {
    hook_calls = wrote.step.calls;
    step = CacheStep.gives_back key value soft back wrote.step.calls new
        (wrote.step.holds.0 is_steady);
    told = AreTold.some wrote.step.calls first last begins wrote.step.runs;
  }

  -- a removal by a predicate is one by what it answered
  as_told : (answers : V → Bool → Type 0) (key : K) (pair : Option (K × V)) (mid : CacheState K V)
      → RemovesAsked (equal key) old answers pair mid
      → RemovesIf (equal key) old (as_answered (is_some pair) key) pair mid
  as_told answers key pair mid (RemovesAsked.goes place before item after at passed) =
      RemovesIf.goes place before item after at refl
  as_told answers key pair mid (RemovesAsked.stays place before item after at failed) =
      RemovesIf.stays place before item after at refl
  as_told answers key pair mid (RemovesAsked.absent none) = RemovesIf.absent none

  pub removes_if : (answers : V → Bool → Type 0) (key : K) (pair : Option (K × V))
      → UpToOrder (RemovesAsked (equal key) old answers pair) new
      → IsStep rules equal hooks is_default old
      (Entry.Made turn next shard (Call.RemoveIf key (is_some pair)) (Reply.Pair pair)) new
  removes_if answers key pair step = record {
    hook_calls = [];
    step = CacheStep.removes_if key (is_some pair) pair new (record {
      ordered = step.ordered;
      holds = as_told answers key pair step.ordered step.holds;
      same = step.same;
    });
    told = AreTold.none;
  }

  -- and where all items were dropped, the shard was cleared
  pub clears : new ≡ cleared old
      → IsStep rules equal hooks is_default old
      (Entry.Made turn next shard Call.Clear Reply.Done) new
  clears same = record {
    hook_calls = [];
    step = subst (λ state. CacheStep {M = Global} rules equal IsItself IsItself as_answered old
        Call.Clear Reply.Done [] state) (sym same) CacheStep.clears;
    told = AreTold.none;
  }
