use Rattle.quick_cache_store.proofs.lists.TurnLemmas.{IsSound-turned, lists-turned}
use Rattle.quick_cache_store.proofs.lists.lists.Lists.turn.Goals as goal

pub invariant_of-self : goal.invariant_of-self
invariant_of-self g c =
    let i = c.self.inside in
    rw c.turn.ensures (IsSound-turned i.slots i.index i.rings i.loading c.self.invariant
    c.args.queue)

pub returns : goal.returns
returns g c =
    let i = c.self.inside in
    rw (← c.self.view_is, c.turn.ensures) (lists-turned i.slots i.index i.rings i.loading
    c.self.invariant c.args.queue)
