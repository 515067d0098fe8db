use Rattle.quick_cache_runs.proofs.CallSteps.{reserved, refused_reserve}
use Rattle.quick_cache_runs.proofs.calls.CallMaker.reserve.Goals as goal

pub returns-in-Ok-clause-step : goal.returns-in-Ok-clause-step
returns-in-Ok-clause-step g c = λ answers.
    reserved _ g.K.PartialEq.eq g.K.Clone.is_clone g.V.Clone.is_clone answers
    c.args.cache.now.state c.args.additional _ (λ i. (c.in-Ok.ensures.same i).state)

pub returns-in-Err-clause-step : goal.returns-in-Err-clause-step
returns-in-Err-clause-step g c = λ answers.
    refused_reserve _ g.K.PartialEq.eq g.K.Clone.is_clone g.V.Clone.is_clone answers
    c.args.cache.now.state c.args.additional c.in-Err.refusal _ c.in-Err.ensures.refused
    (λ i. (c.in-Err.ensures.same i).state)
