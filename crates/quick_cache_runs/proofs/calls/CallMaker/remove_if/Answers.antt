use Rattle.quick_cache_model.specs.CacheStep.{CacheStep}
use Rattle.quick_cache_runs.proofs.CallSteps.{tested}
use Rattle.quick_cache_runs.proofs.calls.CallMaker.remove_if.Goals as goal

-- the predicate is asked of the value beside the key
pub returns-clause-step : goal.returns-clause-step
returns-clause-step g c = λ answers as_test.
    CacheStep.removes_if c.args.key c.args.wanted c.remove_if.result _
    (c.remove_if.ensures.removes (answers c.args.wanted c.args.key)
    (λ value answer called. tested g.F.Fn c.args.wanted (answers c.args.wanted) as_test
    c.args.key called.0.now value answer called.2 called.1))
