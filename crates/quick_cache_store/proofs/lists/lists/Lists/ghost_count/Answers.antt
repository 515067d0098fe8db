use Rattle.std.proofs.Common.{◌∙◌, ap, length}
use Rattle.quick_cache_store.proofs.lists.TurnLemmas.{count_ghosts}
use Rattle.quick_cache_store.proofs.lists.lists.Lists.ghost_count.Goals as goal

pub returns : goal.returns
returns g c =
    let i = c.self.inside in
    rw (← c.self.view_is) (c.len.ensures ∙ ap length c.ghosts.ensures.tokens
    ∙ count_ghosts i.slots i.rings.ghosts c.self.invariant.standing.ghost_ring)
