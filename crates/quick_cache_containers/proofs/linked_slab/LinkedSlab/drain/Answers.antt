use Rattle.quick_cache_containers.proofs.IteratedItems.{Drain_keeps_along}
use Rattle.quick_cache_containers.proofs.linked_slab.LinkedSlab.drain.Goals as goal

pub returns-clause-stays : goal.returns-clause-stays
returns-clause-stays g c = Drain_keeps_along _
