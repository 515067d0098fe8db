use Rattle.std.proofs.Common.{Some}
use Rattle.quick_cache_model.specs.declared.calls.call.Call.{Call}
use Rattle.quick_cache_model.specs.CacheStep.{CacheStep}
use Rattle.quick_cache_model.specs.Kinds.{IsLook}
use Rattle.quick_cache_runs.proofs.CallSteps.{refused_copy}
use Rattle.quick_cache_runs.proofs.calls.CallMaker.get.Goals as goal

-- the copy is a clone of the value that was found
pub returns-in-Ok-Some-clause-step : goal.returns-in-Ok-Some-clause-step
returns-in-Ok-Some-clause-step g c = λ answers.
    let finds = rw c.in-Ok-Some.field-0-is at c.in-Ok-Some.ensures.finds in
    CacheStep.gets c.args.key (Some finds.value) (Some c.in-Ok-Some.copy) _ finds.looks finds.cloned

-- there is an item, whose value was not cloned
pub returns-clause-step : goal.returns-clause-step
returns-clause-step g c = λ answers.
    refused_copy _ g.K.PartialEq.eq g.K.Clone.is_clone g.V.Clone.is_clone answers
    c.args.cache.now.state (Call.Get c.args.key) c.args.key IsLook.get c.in-Err.refusal _
    (rw c.in-Err.is at c.find.ensures.finds)
