use Rattle.quick_cache_runs.proofs.CallSteps.{set}
use Rattle.quick_cache_runs.proofs.calls.CallMaker.set.Goals as goal

pub returns-clause-step : goal.returns-clause-step
returns-clause-step g c = λ answers.
    set _ g.K.PartialEq.eq g.K.Clone.is_clone g.V.Clone.is_clone answers c.args.cache.now.state
    c.args.key c.args.value c.set.result _ c.set.ensures.sets
