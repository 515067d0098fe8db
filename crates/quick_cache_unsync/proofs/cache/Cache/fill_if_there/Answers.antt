use Rattle.std.proofs.Common.{rules}
use Rattle.quick_cache_unsync.proofs.cache.Cache.fill_if_there.Goals as goal

-- whatever the answer is
pub returns-clause-fills : goal.returns-clause-fills
returns-clause-fills g c = record {
  answer = c.replace_placeholder.result;
  fills = search rules;
}
