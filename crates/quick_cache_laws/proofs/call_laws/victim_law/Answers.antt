use Rattle.quick_cache_laws.proofs.Victims.{CacheRun-unpinned}
use Rattle.quick_cache_laws.proofs.call_laws.victim_law.Goals as goal

pub returns : goal.returns
returns g c = λ hash weight pinned answers old new calls replies hook_calls run.
    CacheRun-unpinned _ _ _ _ answers old calls replies hook_calls new run
