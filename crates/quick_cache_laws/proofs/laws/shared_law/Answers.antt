use Rattle.quick_cache_laws.proofs.Calls.MoreTouches.{Writes-more, FillsPlaceholder-more, SetsCapacity-more}
use Rattle.quick_cache_laws.proofs.laws.shared_law.Goals as goal

pub returns-clause-writes : goal.returns-clause-writes
returns-clause-writes g c = λ more hash weight pinned equal_to key strategy old value calls
    answer new writes.
    Writes-more _ _ more equal_to key strategy old value calls answer new writes

pub returns-clause-fills : goal.returns-clause-fills
returns-clause-fills g c = λ more hash weight pinned ticket marked old value calls answer
    new fills.
    FillsPlaceholder-more _ _ more ticket marked old value calls answer new fills

pub returns-clause-sets_capacity : goal.returns-clause-sets_capacity
returns-clause-sets_capacity g c = λ more hash weight pinned capacity old calls new sets.
    SetsCapacity-more _ _ more capacity old calls new sets
