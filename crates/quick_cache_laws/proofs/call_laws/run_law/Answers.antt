use Rattle.quick_cache_laws.proofs.CallSteps.{CacheRun-steps}
use Rattle.quick_cache_laws.proofs.call_laws.run_law.Goals as goal

pub returns-clause-steps : goal.returns-clause-steps
returns-clause-steps g c = λ hash weight pinned answers old new calls replies hook_calls run.
    CacheRun-steps _ _ g.met.K.Eq.laws _ _ answers old calls replies hook_calls new run

pub returns-clause-valid : goal.returns-clause-valid
returns-clause-valid g c = λ hash weight pinned answers old new calls replies hook_calls run.
    c.valid_law.ensures.steps hash weight pinned old new
    (CacheRun-steps _ _ g.met.K.Eq.laws _ _ answers old calls replies hook_calls new run)

pub returns-clause-sized : goal.returns-clause-sized
returns-clause-sized g c = λ hash weight pinned answers old new calls replies hook_calls run.
    c.size_law.ensures.steps hash weight pinned old new
    (CacheRun-steps _ _ g.met.K.Eq.laws _ _ answers old calls replies hook_calls new run)
