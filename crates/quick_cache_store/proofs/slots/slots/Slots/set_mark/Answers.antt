use Rattle.std.proofs.Common.{◌∙◌, length-set}
use Rattle.std.specs.Int.NonZero.{non_zero_u32_get as number}
use Rattle.quick_cache_store.specs.Asides.{besides_of, room_of}
use Rattle.quick_cache_store.proofs.slots.WrittenLemmas.{item-occupied, place-within, beside_token-read, Writes-mark}
use Rattle.quick_cache_store.proofs.slots.slots.Slots.set_mark.Goals as goal

pub set_mark-requires-clause-within : goal.set_mark-requires-clause-within
set_mark-requires-clause-within g c =
    let i = c.self.inside in
    place-within i.pool (besides_of i.asides) (room_of i.asides) (number c.args.token)
    c.place.result
    c.self.invariant.beside c.place.ensures
    (item-occupied i.pool (besides_of i.asides) _ _ _ c.self.invariant.beside c.self.view_is
    c.requires)

pub invariant_of-self : goal.invariant_of-self
invariant_of-self g c =
    let i = c.self.inside in
    let t = number c.args.token in
    let occupied = item-occupied i.pool (besides_of i.asides) _ _ _ c.self.invariant.beside
    c.self.view_is
    c.requires in
    let written = c.set_mark.ensures.items _ (beside_token-read i.pool (besides_of i.asides)
    (room_of i.asides) t
    c.place.result c.self.invariant.beside c.place.ensures occupied) in
    record {
      in_step = c.set_mark.ensures.in_step;
      beside = rw written (length-set (besides_of i.asides) c.place.result _
          ∙ c.self.invariant.beside);
    }

pub returns : goal.returns
returns g c =
    let i = c.self.inside in
    let t = number c.args.token in
    let occupied = item-occupied i.pool (besides_of i.asides) _ _ _ c.self.invariant.beside
    c.self.view_is
    c.requires in
    let written = c.set_mark.ensures.items _ (beside_token-read i.pool (besides_of i.asides)
    (room_of i.asides) t
    c.place.result c.self.invariant.beside c.place.ensures occupied) in
    rw (← c.self.view_is, written, c.set_mark.ensures.room) (Writes-mark i.pool
    (besides_of i.asides) (room_of i.asides) t
    c.place.result c.self.invariant.beside c.place.ensures occupied c.args.mark)
