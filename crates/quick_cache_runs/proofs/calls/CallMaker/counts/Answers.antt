use Rattle.quick_cache_runs.proofs.CallSteps.{counted}
use Rattle.quick_cache_runs.proofs.calls.CallMaker.counts.Goals as goal

pub returns : goal.returns
returns g c = record {
  step = λ answers. counted _ g.K.PartialEq.eq g.K.Clone.is_clone g.V.Clone.is_clone answers
      c.args.cache.now.state c.len.result c.weight.result c.capacity.result c.hits.result
      c.misses.result c.len.ensures c.weight.ensures c.capacity.ensures c.hits.ensures
      c.misses.ensures;
}
