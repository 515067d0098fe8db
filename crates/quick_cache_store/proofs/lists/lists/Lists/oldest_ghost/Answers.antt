use Rattle.quick_cache_store.proofs.lists.TurnLemmas.{IsFirstOf-ghosts}
use Rattle.quick_cache_store.proofs.lists.lists.Lists.oldest_ghost.Goals as goal

pub returns : goal.returns
returns g c =
    let i = c.self.inside in
    rw (← c.self.view_is) (IsFirstOf-ghosts i.slots i.rings.ghosts
    c.self.invariant.standing.ghost_ring c.first.result (rw c.ghosts.ensures.tokens at c.first.ensures))
