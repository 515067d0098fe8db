use Rattle.quick_cache_laws.proofs.Fresh.{fresh_is_scan}
use Rattle.quick_cache_laws.proofs.Runs.{rings_at_each_turn, run_keeps_hot, run_stays_ready}
use Rattle.quick_cache_laws.proofs.scan_laws.scan_law.Goals as goal

pub returns-clause-hot : goal.returns-clause-hot
returns-clause-hot g c = λ hash weight pinned answers old calls replies hook_calls new run ready
    scan.
    run_keeps_hot _ _ _ _ answers (λ n none. none) old calls replies hook_calls new run ready scan

pub returns-clause-cold : goal.returns-clause-cold
returns-clause-cold g c = λ hash weight pinned answers old calls replies hook_calls new run ready
    scan.
    rings_at_each_turn _ _ _ _ answers (λ n none. none) old calls replies hook_calls new run ready
    scan

pub returns-clause-ready : goal.returns-clause-ready
returns-clause-ready g c = λ hash weight pinned answers old calls replies hook_calls new run ready
    scan.
    run_stays_ready _ _ _ _ answers (λ n none. none) old calls replies hook_calls new run ready
    scan

pub returns-clause-fresh : goal.returns-clause-fresh
returns-clause-fresh g c = λ hash weight pinned answers old calls replies hook_calls new run ready
    same_hash fresh.
    fresh_is_scan _ _ _ _ answers (λ n none. none) same_hash old calls replies hook_calls new run
    ready fresh
