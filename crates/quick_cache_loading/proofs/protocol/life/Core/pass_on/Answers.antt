use Rattle.quick_cache_loading.proofs.WaiterLists.{pass_on_sound}
use Rattle.quick_cache_loading.proofs.protocol.life.Core.pass_on.Goals as goal

-- The last waiter of a list of distinct waiters is not among the others.
pub invariant_of-self : goal.invariant_of-self
invariant_of-self g c =
    pass_on_sound c.self.inside.stage c.self.inside.waiters.items _ _ c.self.invariant
    (rw (← c.self.view_is) at c.requires) c.in-Some.ensures.items
