use Rattle.std.proofs.Common.{rules}
use Rattle.quick_cache_expiring_sync.proofs.shared.SharedExpiring.stats.Goals as goal

-- it tells no more hits than the cache, and no fewer misses
pub returns-clause-hits : goal.returns-clause-hits
returns-clause-hits g c = (c.stats-held.result.hits, search rules, search rules)

pub returns-clause-missed : goal.returns-clause-missed
returns-clause-missed g c = (c.stats-held.result.misses, search rules, search rules)
