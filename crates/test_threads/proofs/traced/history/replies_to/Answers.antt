use Rattle.quick_cache_runs.proofs.CallerLemmas.{none_asked}
use Rattle.test_threads.proofs.traced.history.replies_to.Goals as goal

-- none asks a predicate
pub run-requires-clause-callable : goal.run-requires-clause-callable
run-requires-clause-callable g c = none_asked _ _ c.requires
