use Rattle.std.proofs.Common.{Some, None, refl}
use Rattle.quick_cache_model.specs.declared.calls.call.Call.{Call}
use Rattle.quick_cache_model.specs.CacheStep.{CacheStep}
use Rattle.quick_cache_model.specs.Kinds.{IsLook}
use Rattle.quick_cache_runs.proofs.CallSteps.{refused_look}
use Rattle.quick_cache_runs.proofs.calls.CallMaker.peek.Goals as goal

-- nothing was seen, so the peek shows nothing
pub returns-in-None-clause-step : goal.returns-in-None-clause-step
returns-in-None-clause-step g c = λ answers.
    CacheStep.peeks c.args.key None None c.in-None.ensures.sees tt

-- the copy is a clone of the value that was seen
pub returns-in-Ok-clause-step : goal.returns-in-Ok-clause-step
returns-in-Ok-clause-step g c = λ answers.
    CacheStep.peeks c.args.key (Some c.in-Some.value.now) (Some c.in-Ok.copy)
    c.in-Some.ensures.sees c.in-Ok.ensures.cases

-- an item was seen, so there was something to clone
pub returns-clause-step : goal.returns-clause-step
returns-clause-step g c = λ answers.
    refused_look _ g.K.PartialEq.eq g.K.Clone.is_clone g.V.Clone.is_clone answers
    c.args.cache.now.state (λ item. item.value) (Call.Peek c.args.key) c.args.key IsLook.peek
    c.in-Some.ensures.sees refl
