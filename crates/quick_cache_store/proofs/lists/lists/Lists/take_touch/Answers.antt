use Rattle.std.specs.Int.NonZero.{non_zero_u32_get as number}
use Rattle.quick_cache_store.proofs.lists.ItemLemmas.{item_by_token}
use Rattle.quick_cache_store.proofs.lists.lists.Lists.take_touch.Goals as goal

pub take_touch-requires : goal.take_touch-requires
take_touch-requires g c =
    let i = c.self.inside in
    item_by_token i.slots i.index i.rings
    (number c.args.token) (rw (← c.self.view_is) at c.requires)

pub invariant_of-self : goal.invariant_of-self
invariant_of-self g c = rw c.take_touch.ensures.same c.self.invariant

pub returns-clause-same : goal.returns-clause-same
returns-clause-same g c = rw c.take_touch.ensures.same c.self.view_is
