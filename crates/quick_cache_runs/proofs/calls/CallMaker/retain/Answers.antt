use Rattle.quick_cache_model.specs.CacheStep.{CacheStep}
use Rattle.quick_cache_runs.proofs.calls.CallMaker.retain.Goals as goal

pub returns-clause-step : goal.returns-clause-step
returns-clause-step g c = λ answers as_test.
    CacheStep.retains c.args.keep _
    (c.retain.ensures.retains (answers c.args.keep) as_test)
