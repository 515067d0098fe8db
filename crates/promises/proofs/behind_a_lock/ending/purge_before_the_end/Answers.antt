use Rattle.std.proofs.Common.{refl}
use Rattle.promises.proofs.PurgeLemmas.{none-purged}
use Rattle.promises.proofs.behind_a_lock.ending.purge_before_the_end.Goals as goal

-- each lives till then
pub returns : goal.returns
returns g c = none-purged _ _ _ _ 19 (λ key lasting fit. rw fit refl) _ _ c.purge.ensures.answers
