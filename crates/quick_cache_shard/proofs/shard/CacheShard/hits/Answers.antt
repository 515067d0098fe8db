use Rattle.std.proofs.Common.{arith}
use Rattle.quick_cache_shard.proofs.shard.CacheShard.hits.Goals as goal

-- what the cache counted, and what readers added
pub returns-clause-shown : goal.returns-clause-shown
returns-clause-shown g c =
    rw (← c.self.view_is)
    (c.hits_seen-seen.result, c.hits_seen-seen.ensures, omega (arith, c.saturating_add.ensures))

pub returns-clause-exact : goal.returns-clause-exact
returns-clause-exact g c = λ none.
    rw (← c.self.view_is)
    (omega (arith, c.saturating_add.ensures, none c.hits_seen-seen.result c.hits_seen-seen.ensures))
