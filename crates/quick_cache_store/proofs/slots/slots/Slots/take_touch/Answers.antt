use Rattle.std.specs.Int.NonZero.{non_zero_u32_get as number}
use Rattle.quick_cache_store.specs.Asides.{besides_of}
use Rattle.quick_cache_store.proofs.slots.WrittenLemmas.{item-occupied, item-stored, unwritten}
use Rattle.quick_cache_store.proofs.slots.slots.Slots.take_touch.Goals as goal

pub item_mut-entry-requires : goal.item_mut-entry-requires
item_mut-entry-requires g c =
    let i = c.self.inside in
    item-occupied i.pool (besides_of i.asides) _ _ _ c.self.invariant.beside c.self.view_is
    c.requires

pub take_touch-requires : goal.take_touch-requires
take_touch-requires g c =
    let i = c.self.inside in
    item-stored i.pool (besides_of i.asides) _ _ _ c.self.invariant.beside c.self.view_is _
    c.requires
    c.item_mut-entry.ensures.item

pub returns-clause-same : goal.returns-clause-same
returns-clause-same g c =
    let i = c.self.inside in
    rw (← c.self.view_is) (unwritten i.pool (besides_of i.asides) _ (number c.args.token) _
    c.self.invariant.beside c.item_mut-entry.ensures.item c.take_touch.new.self
    c.take_touch.ensures.same)
