use Rattle.std.proofs.Common.{rules}
use Rattle.quick_cache_guard.proofs.future.JoinFuture.give.Goals as goal

-- each part by itself
pub returns : goal.returns
returns g c = record {
  gives = search rules;
  once = search rules;
  registers = search rules;
  cause = search rules;
  again = search rules;
  query = search rules;
}
