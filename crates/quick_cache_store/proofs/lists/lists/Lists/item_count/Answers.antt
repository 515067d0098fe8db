use Rattle.std.proofs.Common.{ap, length, arith}
use Rattle.quick_cache_store.proofs.lists.TurnLemmas.{count_ghosts}
use Rattle.quick_cache_store.proofs.lists.lists.Lists.item_count.Goals as goal

pub overflow_sub-result : goal.overflow_sub-result
overflow_sub-result g c =
    let i = c.self.inside in
    let ghosts = count_ghosts i.slots i.rings.ghosts c.self.invariant.standing.ghost_ring in
    omega (
      arith,
      c.self.invariant.all_counted,
      c.self.invariant.loading_counted,
      ghosts,
      ap length c.ghosts.ensures.tokens,
      c.len.ensures,
      c.len-2.ensures,
    )

pub overflow_sub-result-2 : goal.overflow_sub-result-2
overflow_sub-result-2 g c =
    let i = c.self.inside in
    let ghosts = count_ghosts i.slots i.rings.ghosts c.self.invariant.standing.ghost_ring in
    omega (
      arith,
      c.self.invariant.all_counted,
      c.self.invariant.loading_counted,
      ghosts,
      ap length c.ghosts.ensures.tokens,
      c.len.ensures,
      c.len-2.ensures,
    )

pub returns : goal.returns
returns g c =
    let i = c.self.inside in
    let ghosts = count_ghosts i.slots i.rings.ghosts c.self.invariant.standing.ghost_ring in
    rw (← c.self.view_is) (omega (
      arith,
      c.self.invariant.all_counted,
      c.self.invariant.loading_counted,
      ghosts,
      ap length c.ghosts.ensures.tokens,
      c.len.ensures,
      c.len-2.ensures,
    ))
