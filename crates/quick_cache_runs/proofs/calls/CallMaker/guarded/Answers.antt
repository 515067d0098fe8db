use Rattle.std.proofs.Common.{◌≡◌, ◌∙◌, sym, ap, subst}
use Rattle.quick_cache_model.specs.CacheState.{CacheState}
use Rattle.quick_cache_model.specs.Finding.{HasNoItem}
use Rattle.quick_cache_model.specs.declared.calls.call.Call.{Call}
use Rattle.quick_cache_shard.specs.Lifecycles.{hooks_by}
use Rattle.quick_cache_shard.specs.Shard.{Shard, KeepsTerms}
use Rattle.quick_cache_shard.specs.Steps.{goes_by}
use Rattle.quick_cache_runs.specs.Made.{MakesCall}
use Rattle.quick_cache_runs.proofs.CallSteps.{quietly}
use Rattle.quick_cache_runs.proofs.LoadSteps.{guard-finds, guard-refuses-copy}
use Rattle.quick_cache_runs.proofs.calls.CallMaker.guarded.Goals as goal

-- the copy is a clone of the value that was found
pub returns-in-Ok-Some-clause-step : goal.returns-in-Ok-Some-clause-step
returns-in-Ok-Some-clause-step g c = λ steady answers.
    let old = c.args.cache.now in
    let finds = rw c.in-Ok-Some.field-0-is at c.in-Ok-Some.ensures.finds in
    quietly _ g.K.PartialEq.eq g.K.Clone.is_clone g.V.Clone.is_clone answers old.state
    (hooks_by g.L.Lifecycle old.lifecycle) c.args.state.now
    (Call.Guarded c.args.key.now c.args.given) _ _
    (guard-finds _ g.K.PartialEq.eq g.K.Clone.is_clone g.V.Clone.is_clone answers old.state
    c.args.key.now c.args.given finds.value c.in-Ok-Some.copy _ finds.looks finds.cloned)

-- no item is there, and nothing changed
pub guard_absent-requires-clause-absent : goal.guard_absent-requires-clause-absent
guard_absent-requires-clause-absent g c =
    let finds = rw c.in-Ok-None.field-0-is at c.in-Ok-None.ensures.finds in
    subst (λ (s : CacheState g.row.K.Denot g.row.V.Denot).
    HasNoItem (g.K.PartialEq.eq c.args.key.now) s) (sym finds.1) finds.0

pub returns-in-Ok-None : goal.returns-in-Ok-None
returns-in-Ok-None g c =
    let X = Shard g.row.K.Denot g.row.V.Denot g.row.We.Denot g.row.B.Denot g.row.L.Denot in
    let old = c.args.cache.now in
    let finds = rw c.in-Ok-None.field-0-is at c.in-Ok-None.ensures.finds in
    let same : c.find.new.self ≡ old =
    c.find.ensures.same
    ∙ ap (λ (s : CacheState g.row.K.Denot g.row.V.Denot). record old { state = s }) finds.1 in
    record {
      step = subst (λ (x : X). MakesCall g.row.F.Denot
          (goes_by g.K.Hash.hash_input g.We.Weighter g.B.BuildHasher g.B.Hasher.Hasher
          g.L.Lifecycle) g.K.PartialEq.eq g.K.Clone.is_clone g.V.Clone.is_clone x c.args.state.now
          (Call.Guarded c.args.key.now c.args.given) c.guard_absent.result c.guard_absent.new.cache
          c.guard_absent.new.state) same c.guard_absent.ensures.step;
      room = rw same at c.guard_absent.ensures.room;
      asks = λ key values. rw same at (c.guard_absent.ensures.asks key);
      same = subst (λ (x : X). KeepsTerms x c.guard_absent.new.cache) same
          c.guard_absent.ensures.same;
    }

-- there is an item, whose value was not cloned
pub returns-in-Err-clause-step : goal.returns-in-Err-clause-step
returns-in-Err-clause-step g c = λ steady answers.
    let old = c.args.cache.now in
    quietly _ g.K.PartialEq.eq g.K.Clone.is_clone g.V.Clone.is_clone answers old.state
    (hooks_by g.L.Lifecycle old.lifecycle) c.args.state.now
    (Call.Guarded c.args.key.now c.args.given) _ _
    (guard-refuses-copy _ g.K.PartialEq.eq g.K.Clone.is_clone g.V.Clone.is_clone answers old.state
    c.args.key.now c.args.given c.in-Err.refusal _ (rw c.in-Err.is at c.find.ensures.finds))
