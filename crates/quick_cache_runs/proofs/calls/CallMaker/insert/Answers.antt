use Rattle.quick_cache_shard.specs.Lifecycles.{hooks_by}
use Rattle.quick_cache_runs.proofs.CallSteps.{inserted, refused_insert}
use Rattle.quick_cache_runs.proofs.calls.CallMaker.insert.Goals as goal

pub returns-in-Ok-clause-step : goal.returns-in-Ok-clause-step
returns-in-Ok-clause-step g c = λ steady answers.
    inserted _ g.K.PartialEq.eq g.K.Clone.is_clone g.V.Clone.is_clone answers
    c.args.cache.now.state (hooks_by g.L.Lifecycle c.args.cache.now.lifecycle) _ steady
    c.args.state.now c.args.key c.args.value _ _ c.in-Ok.ensures.inserts

pub returns-in-Err-clause-step : goal.returns-in-Err-clause-step
returns-in-Err-clause-step g c = λ steady answers.
    refused_insert _ g.K.PartialEq.eq g.K.Clone.is_clone g.V.Clone.is_clone answers _
    (hooks_by g.L.Lifecycle c.args.cache.now.lifecycle) _ steady c.args.state.now c.args.key
    c.args.value c.in-Err.key c.in-Err.value c.in-Err.refusal _ _ c.in-Err.ensures.inserts
