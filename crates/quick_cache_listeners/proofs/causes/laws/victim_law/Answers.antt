use Rattle.quick_cache_listeners.proofs.Told.{AreEvictions-told, EvictsToCapacity-evictions}
use Rattle.quick_cache_listeners.proofs.causes.laws.victim_law.Goals as goal

pub returns : goal.returns
returns g c = λ hash weight pinned need old new calls stage evicts.
    AreEvictions-told stage calls (EvictsToCapacity-evictions _ need old new calls evicts)
