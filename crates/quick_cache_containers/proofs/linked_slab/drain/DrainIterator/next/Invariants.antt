use Rattle.std.proofs.Common.{◌≡◌, ◌-◌, length}
use Rattle.quick_cache_containers.specs.SlabDrain.{DrainCanStep}
use Rattle.quick_cache_containers.proofs.linked_slab.drain.DrainIterator.next.Given as goal

-- only free slots were passed over
abbrev pub invariant-loop-self : goal.invariant-loop-self
invariant-loop-self g l = DrainCanStep l.self × (l.self.slab ≡ l.fn.self.slab)

abbrev pub decreases-loop-self : goal.decreases-loop-self
decreases-loop-self g l = length l.self.slab.now.slots - l.self.passed
