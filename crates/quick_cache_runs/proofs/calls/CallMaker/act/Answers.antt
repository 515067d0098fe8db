use Rattle.quick_cache_model.specs.declared.calls.call.Call.{Call}
use Rattle.quick_cache_shard.specs.Lifecycles.{hooks_by}
use Rattle.quick_cache_runs.proofs.CallSteps.{quietly}
use Rattle.quick_cache_runs.proofs.calls.CallMaker.act.Goals as goal

pub returns-in-Get-clause-step : goal.returns-in-Get-clause-step
returns-in-Get-clause-step g c = λ steady answers asked. rw c.in-Get.is
    (quietly _ g.K.PartialEq.eq g.K.Clone.is_clone g.V.Clone.is_clone answers
    c.args.cache.now.state (hooks_by g.L.Lifecycle c.args.cache.now.lifecycle) c.args.state.now
    (Call.Get c.in-Get.key) _ _ (c.get.ensures.step answers))

pub returns-in-Peek-clause-step : goal.returns-in-Peek-clause-step
returns-in-Peek-clause-step g c = λ steady answers asked. rw c.in-Peek.is
    (quietly _ g.K.PartialEq.eq g.K.Clone.is_clone g.V.Clone.is_clone answers
    c.args.cache.now.state (hooks_by g.L.Lifecycle c.args.cache.now.lifecycle) c.args.state.now
    (Call.Peek c.in-Peek.key) _ _ (c.peek.ensures.step answers))

pub returns-in-GetMut-clause-step : goal.returns-in-GetMut-clause-step
returns-in-GetMut-clause-step g c = λ steady answers asked. rw c.in-GetMut.is
    (quietly _ g.K.PartialEq.eq g.K.Clone.is_clone g.V.Clone.is_clone answers
    c.args.cache.now.state (hooks_by g.L.Lifecycle c.args.cache.now.lifecycle) c.args.state.now
    (Call.GetMut c.in-GetMut.key c.in-GetMut.value) _ _ (c.set.ensures.step answers))

pub returns-in-PeekMut-clause-step : goal.returns-in-PeekMut-clause-step
returns-in-PeekMut-clause-step g c = λ steady answers asked. rw c.in-PeekMut.is
    (quietly _ g.K.PartialEq.eq g.K.Clone.is_clone g.V.Clone.is_clone answers
    c.args.cache.now.state (hooks_by g.L.Lifecycle c.args.cache.now.lifecycle) c.args.state.now
    (Call.PeekMut c.in-PeekMut.key c.in-PeekMut.value) _ _ (c.poke.ensures.step answers))

pub returns-in-Contains-clause-step : goal.returns-in-Contains-clause-step
returns-in-Contains-clause-step g c = λ steady answers asked. rw c.in-Contains.is
    (quietly _ g.K.PartialEq.eq g.K.Clone.is_clone g.V.Clone.is_clone answers
    c.args.cache.now.state (hooks_by g.L.Lifecycle c.args.cache.now.lifecycle) c.args.state.now
    (Call.Contains c.in-Contains.key) _ _ (c.contains.ensures.step answers))

pub returns-in-Stats-clause-step : goal.returns-in-Stats-clause-step
returns-in-Stats-clause-step g c = λ steady answers asked. rw c.in-Stats.is
    (quietly _ g.K.PartialEq.eq g.K.Clone.is_clone g.V.Clone.is_clone answers
    c.args.cache.now.state (hooks_by g.L.Lifecycle c.args.cache.now.lifecycle) c.args.state.now
    (Call.Stats c.in-Stats.key) _ _ (c.stats.ensures.step answers))

pub returns-in-Remove-clause-step : goal.returns-in-Remove-clause-step
returns-in-Remove-clause-step g c = λ steady answers asked. rw c.in-Remove.is
    (quietly _ g.K.PartialEq.eq g.K.Clone.is_clone g.V.Clone.is_clone answers
    c.args.cache.now.state (hooks_by g.L.Lifecycle c.args.cache.now.lifecycle) c.args.state.now
    (Call.Remove c.in-Remove.key) _ _ (c.remove.ensures.step answers))

pub returns-in-Iter-clause-step : goal.returns-in-Iter-clause-step
returns-in-Iter-clause-step g c = λ steady answers asked. rw c.in-Iter.is
    (quietly _ g.K.PartialEq.eq g.K.Clone.is_clone g.V.Clone.is_clone answers
    c.args.cache.now.state (hooks_by g.L.Lifecycle c.args.cache.now.lifecycle) c.args.state.now
    Call.Iter _ _ (c.walk.ensures.step answers))

pub returns-in-Drain-clause-step : goal.returns-in-Drain-clause-step
returns-in-Drain-clause-step g c = λ steady answers asked. rw c.in-Drain.is
    (quietly _ g.K.PartialEq.eq g.K.Clone.is_clone g.V.Clone.is_clone answers
    c.args.cache.now.state (hooks_by g.L.Lifecycle c.args.cache.now.lifecycle) c.args.state.now
    Call.Drain _ _ (c.drain.ensures.step answers))

pub returns-in-Counts-clause-step : goal.returns-in-Counts-clause-step
returns-in-Counts-clause-step g c = λ steady answers asked. rw c.in-Counts.is
    (quietly _ g.K.PartialEq.eq g.K.Clone.is_clone g.V.Clone.is_clone answers
    c.args.cache.now.state (hooks_by g.L.Lifecycle c.args.cache.now.lifecycle) c.args.state.now
    Call.Counts _ _ (c.counts.ensures.step answers))

pub returns-in-Reserve-clause-step : goal.returns-in-Reserve-clause-step
returns-in-Reserve-clause-step g c = λ steady answers asked. rw c.in-Reserve.is
    (quietly _ g.K.PartialEq.eq g.K.Clone.is_clone g.V.Clone.is_clone answers
    c.args.cache.now.state (hooks_by g.L.Lifecycle c.args.cache.now.lifecycle) c.args.state.now
    (Call.Reserve c.in-Reserve.additional) _ _ (c.reserve.ensures.step answers))

pub returns-in-Clear-clause-step : goal.returns-in-Clear-clause-step
returns-in-Clear-clause-step g c = λ steady answers asked. rw c.in-Clear.is
    (quietly _ g.K.PartialEq.eq g.K.Clone.is_clone g.V.Clone.is_clone answers
    c.args.cache.now.state (hooks_by g.L.Lifecycle c.args.cache.now.lifecycle) c.args.state.now
    Call.Clear _ _ (c.clear.ensures.step answers))

pub returns-in-RemoveIf-clause-step : goal.returns-in-RemoveIf-clause-step
returns-in-RemoveIf-clause-step g c = λ steady answers asked. rw c.in-RemoveIf.is
    (quietly _ g.K.PartialEq.eq g.K.Clone.is_clone g.V.Clone.is_clone answers
    c.args.cache.now.state (hooks_by g.L.Lifecycle c.args.cache.now.lifecycle) c.args.state.now
    (Call.RemoveIf c.in-RemoveIf.key c.in-RemoveIf.wanted) _ _
    (c.remove_if.ensures.step answers (rw c.in-RemoveIf.is at asked)))

pub returns-in-Retain-clause-step : goal.returns-in-Retain-clause-step
returns-in-Retain-clause-step g c = λ steady answers asked. rw c.in-Retain.is
    (quietly _ g.K.PartialEq.eq g.K.Clone.is_clone g.V.Clone.is_clone answers
    c.args.cache.now.state (hooks_by g.L.Lifecycle c.args.cache.now.lifecycle) c.args.state.now
    (Call.Retain c.in-Retain.keep) _ _ (c.retain.ensures.step answers (rw c.in-Retain.is at asked)))

pub returns-in-Insert-clause-step : goal.returns-in-Insert-clause-step
returns-in-Insert-clause-step g c = λ steady answers asked. rw c.in-Insert.is
    (c.insert.ensures.step steady answers)

pub returns-in-Replace-clause-step : goal.returns-in-Replace-clause-step
returns-in-Replace-clause-step g c = λ steady answers asked. rw c.in-Replace.is
    (c.replace.ensures.step steady answers)

pub returns-in-Load-clause-step : goal.returns-in-Load-clause-step
returns-in-Load-clause-step g c = λ steady answers asked. rw c.in-Load.is
    (c.load.ensures.step steady answers)

pub returns-in-LoadMut-clause-step : goal.returns-in-LoadMut-clause-step
returns-in-LoadMut-clause-step g c = λ steady answers asked. rw c.in-LoadMut.is
    (c.load_mut.ensures.step steady answers)

pub returns-in-Guarded-clause-step : goal.returns-in-Guarded-clause-step
returns-in-Guarded-clause-step g c = λ steady answers asked. rw c.in-Guarded.is
    (c.guarded.ensures.step steady answers)

pub returns-in-GuardedMut-clause-step : goal.returns-in-GuardedMut-clause-step
returns-in-GuardedMut-clause-step g c = λ steady answers asked. rw c.in-GuardedMut.is
    (c.guarded_mut.ensures.step steady answers)

pub returns-in-SetCapacity-clause-step : goal.returns-in-SetCapacity-clause-step
returns-in-SetCapacity-clause-step g c = λ steady answers asked. rw c.in-SetCapacity.is
    (c.set_capacity.ensures.step steady answers)
