use Rattle.quick_cache_model.specs.declared.calls.call.Call.{Call}
use Rattle.quick_cache_model.specs.CacheStep.{CacheStep}
use Rattle.quick_cache_model.specs.Kinds.{MakesRoom}
use Rattle.quick_cache_runs.proofs.CallSteps.{refused_room}
use Rattle.quick_cache_runs.proofs.calls.CallMaker.drain.Goals as goal

-- there was no room for the allocator
pub returns-in_default-clause-step : goal.returns-in_default-clause-step
returns-in_default-clause-step g c = λ answers.
    refused_room _ g.K.PartialEq.eq g.K.Clone.is_clone g.V.Clone.is_clone answers
    c.args.cache.now.state Call.Drain MakesRoom.drain

-- or for the pairs
pub returns-in_default-reserve-clause-step : goal.returns-in_default-reserve-clause-step
returns-in_default-reserve-clause-step g c = λ answers.
    refused_room _ g.K.PartialEq.eq g.K.Clone.is_clone g.V.Clone.is_clone answers
    c.args.cache.now.state Call.Drain MakesRoom.drain

-- all pairs are given out
pub returns-clause-step : goal.returns-clause-step
returns-clause-step g c = λ answers.
    CacheStep.drains c.given_out.result _ c.given_out.ensures.drains
