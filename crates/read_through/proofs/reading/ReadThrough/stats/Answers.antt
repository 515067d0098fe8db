use Rattle.std.proofs.Common.{rules}
use Rattle.read_through.proofs.reading.ReadThrough.stats.Goals as goal

-- it tells no more hits than the cache
pub returns-clause-hits : goal.returns-clause-hits
returns-clause-hits g c = (c.stats-held.result.hits, search rules, search rules)
