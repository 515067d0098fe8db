use Rattle.std.proofs.Common.{◌∙◌, ap, length}
use Rattle.quick_cache_store.proofs.lists.TurnLemmas.{count_queue}
use Rattle.quick_cache_store.proofs.lists.lists.Lists.count.Goals as goal

pub returns : goal.returns
returns g c =
    let i = c.self.inside in
    rw (← c.self.view_is) (c.len.ensures ∙ ap length c.queue.ensures.tokens
    ∙ count_queue i.slots i.index i.rings c.self.invariant.standing c.args.queue)
