use Rattle.std.proofs.Common.{refl}
use Rattle.std.specs.Int.NonZero.{non_zero_u32_get as number}
use Rattle.quick_cache_store.specs.Asides.{besides_of, room_of}
use Rattle.quick_cache_store.proofs.slots.WrittenLemmas.{item-occupied, item-stored, value-joined, value-written}
use Rattle.quick_cache_store.proofs.slots.slots.Slots.value_mut.Goals as goal

pub item_mut-entry-requires : goal.item_mut-entry-requires
item_mut-entry-requires g c =
    let i = c.self.inside in
    item-occupied i.pool (besides_of i.asides) _ _ _ c.self.invariant.beside c.self.view_is
    c.requires

pub value_mut-requires : goal.value_mut-requires
value_mut-requires g c =
    let i = c.self.inside in
    item-stored i.pool (besides_of i.asides) _ _ _ c.self.invariant.beside c.self.view_is _
    c.requires
    c.item_mut-entry.ensures.item

pub returns : goal.returns
returns g c =
    let i = c.self.inside in
    let t = number c.args.token in
    let stored = c.item_mut-entry.result.now in
    let item = c.item_mut-entry.ensures.item in
    rw (← c.self.view_is) (
      (refl, value-written i.pool (besides_of i.asides) _ t stored c.self.invariant.beside item),
      record {
        writes_back = tt;
        value = value-joined i.pool (besides_of i.asides)
            (room_of i.asides) t stored c.self.invariant.beside item
            c.value_mut.result.now c.value_mut.ensures.value;
      },
    )
