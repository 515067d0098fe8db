use Rattle.std.proofs.Common.{Some, None}
use Rattle.quick_cache_model.specs.CacheStep.{CacheStep}
use Rattle.quick_cache_runs.proofs.calls.CallMaker.stats.Goals as goal

pub returns-in-Some : goal.returns-in-Some
returns-in-Some g c = record {
  step = λ answers. CacheStep.tells_reads c.args.key (Some c.in-Some.stats.access_count)
      c.in-Some.ensures.sees;
}

pub returns : goal.returns
returns g c = record {
  step = λ answers. CacheStep.tells_reads c.args.key None c.in-None.ensures.sees;
}
