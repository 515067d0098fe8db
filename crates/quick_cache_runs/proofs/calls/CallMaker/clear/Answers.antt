use Rattle.quick_cache_runs.proofs.CallSteps.{clears_all}
use Rattle.quick_cache_runs.proofs.calls.CallMaker.clear.Goals as goal

pub returns-clause-step : goal.returns-clause-step
returns-clause-step g c = λ answers.
    clears_all _ g.K.PartialEq.eq g.K.Clone.is_clone g.V.Clone.is_clone answers
    c.args.cache.now.state _
    (λ i. (c.clear.ensures.clears i).state)
