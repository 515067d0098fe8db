use Rattle.quick_cache_laws.proofs.CanBeMade.Lookups.{Placeholder-exists, LooksUp-exists, Removes-exists}
use Rattle.quick_cache_laws.proofs.CanBeMade.EntryCalls.{ActsOnEntry-exists}
use Rattle.quick_cache_laws.proofs.CanBeMade.Writes.{Writes-ends, FillsPlaceholder-ends, SetsCapacity-ends}
use Rattle.quick_cache_laws.proofs.laws.call_law.Goals as goal

pub returns-clause-writes : goal.returns-clause-writes
returns-clause-writes g c = λ hash weight pinned equal_to key strategy old value.
    Writes-ends _ g.T.Touches.none_counted equal_to key strategy old value

pub returns-clause-makes_or_meets : goal.returns-clause-makes_or_meets
returns-clause-makes_or_meets g c = λ stands_for hash key old stands none.
    Placeholder-exists stands_for hash key old stands none

pub returns-clause-fills : goal.returns-clause-fills
returns-clause-fills g c = λ hash weight pinned ticket marked old value.
    FillsPlaceholder-ends _ g.T.Touches.none_counted ticket marked old value

pub returns-clause-looks_up : goal.returns-clause-looks_up
returns-clause-looks_up g c = λ stands_for old. LooksUp-exists stands_for old _

pub returns-clause-removes : goal.returns-clause-removes
returns-clause-removes g c = λ stands_for hash old. Removes-exists stands_for old hash

pub returns-clause-acts : goal.returns-clause-acts
returns-clause-acts g c = λ hash weight pinned stands_for old place before item after
    there ticket left choice.
    ActsOnEntry-exists stands_for _ old place before item after there ticket left choice

pub returns-clause-sets_capacity : goal.returns-clause-sets_capacity
returns-clause-sets_capacity g c = λ hash weight pinned capacity old.
    SetsCapacity-ends _ g.T.Touches.none_counted capacity old
