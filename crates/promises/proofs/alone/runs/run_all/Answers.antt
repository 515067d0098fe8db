use Rattle.std.proofs.Common.{false}
use Rattle.quick_cache_runs.proofs.CallerLemmas.{none_asked}
use Rattle.promises.proofs.RunLemmas.{replies-count, rest-comes-back}
use Rattle.promises.proofs.alone.runs.run_all.Goals as goal

-- none asks a predicate
pub run-requires-clause-callable : goal.run-requires-clause-callable
run-requires-clause-callable g c = none_asked _ _ c.requires.none

pub returns-clause-replies : goal.returns-clause-replies
returns-clause-replies g c = replies-count _ _ _ _ (λ asked key value. false) _ _ _ _ _ _
    c.run.result (c.run.ensures.runs tt (λ asked key value. false) (none_asked _ _ c.requires.none))

pub returns-clause-back : goal.returns-clause-back
returns-clause-back g c = rest-comes-back _ _ _ _ (λ asked key value. false) _ _ _ _ _ _
    c.run.result (c.run.ensures.runs tt (λ asked key value. false) (none_asked _ _ c.requires.none))
