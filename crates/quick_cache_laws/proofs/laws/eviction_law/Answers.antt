use Rattle.quick_cache_laws.proofs.Eviction.OneOutcome.{one_eviction_to_capacity}
use Rattle.quick_cache_model.proofs.Eviction.Keys.{EvictsToCapacity-keys}
use Rattle.quick_cache_laws.proofs.Eviction.PinnedPairs.{EvictsToCapacity-still, EvictsToCapacity-pairs}
use Rattle.quick_cache_laws.proofs.Eviction.Measure.{AdvancesCold-measure}
use Rattle.quick_cache_laws.proofs.CanBeMade.Evictions.{EvictsToCapacity-ends}
use Rattle.quick_cache_laws.proofs.Eviction.Room.{EvictsToCapacity-makes_room}
use Rattle.quick_cache_laws.proofs.laws.eviction_law.Goals as goal

pub returns-clause-brings_no_key : goal.returns-clause-brings_no_key
returns-clause-brings_no_key g c = λ hash weight pinned need old new calls evicts test.
    EvictsToCapacity-keys _ test need old new calls evicts

pub returns-clause-weightless_stay : goal.returns-clause-weightless_stay
returns-clause-weightless_stay g c = λ hash weight pinned need old new calls evicts.
    EvictsToCapacity-still _ need old new calls evicts

pub returns-clause-pinned_stay : goal.returns-clause-pinned_stay
returns-clause-pinned_stay g c = λ hash weight pinned need old new calls evicts test
    only_pinned. EvictsToCapacity-pairs _ test only_pinned need old new calls evicts

pub returns-clause-measure : goal.returns-clause-measure
returns-clause-measure g c = λ hash weight pinned old new calls advances.
    AdvancesCold-measure _ old new calls advances

pub returns-clause-ends : goal.returns-clause-ends
returns-clause-ends g c = λ hash weight pinned need old. EvictsToCapacity-ends _
    g.T.Touches.none_counted
    need old

pub returns-clause-makes_room : goal.returns-clause-makes_room
returns-clause-makes_room g c = λ hash weight pinned need old new calls evicts.
    EvictsToCapacity-makes_room _ need old new calls evicts

pub returns-clause-determined : goal.returns-clause-determined
returns-clause-determined g c = λ hash weight pinned only leaves need old one two new
    other first second a b.
    one_eviction_to_capacity _ leaves only need old one two new other first second a b
