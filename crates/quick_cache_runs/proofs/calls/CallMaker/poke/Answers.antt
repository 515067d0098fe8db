use Rattle.quick_cache_model.specs.CacheStep.{CacheStep}
use Rattle.quick_cache_runs.proofs.calls.CallMaker.poke.Goals as goal

pub returns-clause-step : goal.returns-clause-step
returns-clause-step g c = λ answers.
    CacheStep.peeks_mut c.args.key c.args.value c.poke.result _ c.poke.ensures.writes
