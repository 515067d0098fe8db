use Rattle.quick_cache_model.specs.CacheStep.{CacheStep}
use Rattle.quick_cache_runs.proofs.calls.CallMaker.remove.Goals as goal

pub returns-clause-step : goal.returns-clause-step
returns-clause-step g c = λ answers.
    CacheStep.removes c.args.key c.remove.result _ c.remove.ensures.removes
