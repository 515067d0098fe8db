use Rattle.quick_cache_laws.proofs.Calls.Capacities.{SetsCapacity-sizes, SetsCapacity-same}
use Rattle.quick_cache_laws.proofs.laws.capacity_law.Goals as goal

pub returns-clause-sizes : goal.returns-clause-sizes
returns-clause-sizes g c = λ hash weight pinned old new calls sets sized.
    SetsCapacity-sizes _ old new calls sets sized

pub returns-clause-nothing : goal.returns-clause-nothing
returns-clause-nothing g c = λ hash weight pinned old new calls sets sized room within.
    SetsCapacity-same _ old new calls sets sized room within
