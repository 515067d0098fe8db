use Rattle.quick_cache_loading.proofs.WaiterLists.{is_apart-without}
use Rattle.quick_cache_loading.proofs.protocol.life.Core.cancel.Goals as goal

-- Without one waiter, holder and waiters are still apart.
pub invariant_of-self : goal.invariant_of-self
invariant_of-self g c =
    rw (c.in-Loading.is, c.remove.ensures) (is_apart-without c.in-Loading.holder
    c.self.inside.waiters.items c.args.waiter (rw c.in-Loading.is at c.self.invariant))
