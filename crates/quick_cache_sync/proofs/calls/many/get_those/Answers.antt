use Rattle.std.proofs.lemmas.Result.{on_ok_weaker}
use Rattle.quick_cache_sync.proofs.calls.many.get_those.Goals as goal

-- the shard is the one of this place
pub returns-clause-gets : goal.returns-clause-gets
returns-clause-gets g c = on_ok_weaker c.get_those_in.result
    (λ shown index query within at is. record {
      shard = _;
      kept = (shown index query within at is).kept;
      holds = shown;
    }) c.get_those_in.ensures.gets
