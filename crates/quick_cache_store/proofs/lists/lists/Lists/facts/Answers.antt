use Rattle.std.proofs.Common.{arith}
use Rattle.quick_cache_store.proofs.lists.ApartLemmas.{apart_by}
use Rattle.quick_cache_store.proofs.lists.lists.Lists.facts.Goals as goal

pub returns-clause-apart : goal.returns-clause-apart
returns-clause-apart g c =
    let i = c.self.inside in
    rw (← c.self.view_is) (apart_by i.slots i.index i.rings
    c.self.invariant.standing)

pub returns-clause-within : goal.returns-clause-within
returns-clause-within g c =
    rw (← c.self.view_is) (omega (
      arith,
      c.self.invariant.all_counted,
      c.self.invariant.keyed.counted,
      c.facts.ensures.few,
    ))
