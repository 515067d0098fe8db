use Rattle.quick_cache_model.specs.CacheStep.{CacheStep}
use Rattle.quick_cache_runs.proofs.CallSteps.{tells}
use Rattle.quick_cache_runs.proofs.calls.CallMaker.contains.Goals as goal

pub returns : goal.returns
returns g c = record {
  step = λ answers. CacheStep.tells c.args.key c.contains_key.result
      (tells c.args.cache.now.state (g.K.PartialEq.eq c.args.key) c.contains_key.result
      c.contains_key.ensures.there c.contains_key.ensures.absent);
}
