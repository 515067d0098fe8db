use Rattle.quick_cache_store.specs.ListSlots.{AmongGhosts}
use Rattle.quick_cache_store.proofs.lists.WalkLemmas.{IsWalk-ring, hashes_in-walk_of}
use Rattle.quick_cache_store.proofs.lists.lists.Lists.iter_ghosts.Goals as goal

pub invariant_of-result : goal.invariant_of-result
invariant_of-result g c =
    let i = c.self.inside in
    rw (c.len.ensures, c.ghosts-tokens.ensures.tokens) (IsWalk-ring i.slots i.rings.ghosts
    AmongGhosts c.self.invariant.standing.ghost_ring)

pub returns : goal.returns
returns g c =
    let i = c.self.inside in
    rw (← c.self.view_is, c.ghosts-tokens.ensures.tokens)
    (hashes_in-walk_of i.slots i.rings.ghosts c.self.invariant.standing.ghost_ring)
