use Rattle.quick_cache_runs.proofs.CallerLemmas.{none_asked}
use Rattle.test_unsync.proofs.runs.thousand.a_scan_of_a_thousand_keys_takes_no_hot_one.Goals as goal

-- none asks a predicate
pub scan-requires-clause-callable : goal.scan-requires-clause-callable
scan-requires-clause-callable g c = none_asked _ _ c.in-Ok.ensures
