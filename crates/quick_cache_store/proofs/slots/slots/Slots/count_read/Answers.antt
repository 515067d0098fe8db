use Rattle.std.proofs.Common.{◌≡◌, sym, ap, ◌∙◌}
use Rattle.std.specs.Int.NonZero.{non_zero_u32_get as number}
use Rattle.quick_cache_store.specs.Asides.{besides_of}
use Rattle.quick_cache_store.specs.Stored.{is_counted_out}
use Rattle.quick_cache_store.proofs.slots.WrittenLemmas.{item-occupied, item-stored, Writes-entry}
use Rattle.quick_cache_store.proofs.slots.slots.Slots.count_read.Goals as goal

pub item-entry-requires : goal.item-entry-requires
item-entry-requires g c =
    let i = c.self.inside in
    item-occupied i.pool (besides_of i.asides) _ _ _ c.self.invariant.beside c.self.view_is
    c.requires

pub item_mut-entry-requires : goal.item_mut-entry-requires
item_mut-entry-requires g c =
    let i = c.self.inside in
    item-occupied i.pool (besides_of i.asides) _ _ _ c.self.invariant.beside c.self.view_is
    c.requires

pub count_late-requires-clause-item : goal.count_late-requires-clause-item
count_late-requires-clause-item g c =
    let i = c.self.inside in
    item-stored i.pool (besides_of i.asides) _ _ _ c.self.invariant.beside c.self.view_is _
    c.requires
    c.item_mut-entry.ensures.item

pub returns : goal.returns
returns g c =
    let i = c.self.inside in
    rw (← c.self.view_is) (Writes-entry i.pool (besides_of i.asides) _ (number c.args.token) _
    c.self.invariant.beside c.item_mut-entry.ensures.item _ c.count_late.new.self
    c.count_late.ensures)

pub count_late-requires-clause-room : goal.count_late-requires-clause-room
count_late-requires-clause-room g c =
    let same : c.item-entry.result.now ≡ c.item_mut-entry.result.now =
    let once = c.item-entry.ensures.item in let again = c.item_mut-entry.ensures.item in cc in
    ap is_counted_out (sym same) ∙ sym c.is_counted_out.ensures ∙ c.if-is_counted_out.false
