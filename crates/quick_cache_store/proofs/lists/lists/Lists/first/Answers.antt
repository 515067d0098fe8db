use Rattle.quick_cache_store.proofs.lists.TurnLemmas.{first_queue}
use Rattle.quick_cache_store.proofs.lists.lists.Lists.first.Goals as goal

pub returns : goal.returns
returns g c =
    let i = c.self.inside in
    rw (← c.self.view_is) (first_queue i.slots i.index i.rings c.self.invariant.standing
    c.args.queue c.first.result (rw c.queue.ensures.tokens at c.first.ensures))
