use Rattle.quick_cache_model.specs.CacheStep.{CacheStep}
use Rattle.quick_cache_runs.proofs.calls.CallMaker.set_capacity.Goals as goal

pub returns-clause-step : goal.returns-clause-step
returns-clause-step g c = λ steady answers.
    let sets = c.set_capacity_with_lifecycle.ensures.sets in record {
      calls = sets.calls;
      step = CacheStep.sets_capacity c.args.capacity sets.calls _ (sets.holds.0 steady);
      runs = sets.runs;
    }
