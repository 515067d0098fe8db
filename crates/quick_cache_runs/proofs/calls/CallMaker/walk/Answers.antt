use Rattle.quick_cache_model.specs.declared.calls.call.Call.{Call}
use Rattle.quick_cache_model.specs.CacheStep.{CacheStep}
use Rattle.quick_cache_model.specs.Kinds.{MakesRoom}
use Rattle.quick_cache_runs.proofs.CallSteps.{refused_room, refused_as_room}
use Rattle.quick_cache_runs.proofs.calls.CallMaker.walk.Goals as goal

-- there was no room for the allocator
pub returns-in_default : goal.returns-in_default
returns-in_default g c = record {
  step = λ answers. refused_room _ g.K.PartialEq.eq g.K.Clone.is_clone g.V.Clone.is_clone answers
      c.args.cache.now.state Call.Iter MakesRoom.iter;
}

-- each resident is shown
pub returns-in-Ok-shown : goal.returns-in-Ok-shown
returns-in-Ok-shown g c = record {
  step = λ answers. CacheStep.walks c.iter.result c.in-Ok-shown.pairs c.iter.ensures
      c.in-Ok-shown.ensures.shows;
}

-- there was no room for the pairs
pub returns-in-Err : goal.returns-in-Err
returns-in-Err g c = record {
  step = λ answers. refused_as_room _ g.K.PartialEq.eq g.K.Clone.is_clone g.V.Clone.is_clone
      answers c.args.cache.now.state Call.Iter MakesRoom.iter c.in-Err.refusal
      c.in-Err.ensures.refused;
}
