use Rattle.std.proofs.Common.{sym, ap, ◌∙◌, Some, arith}
use Rattle.std.specs.Int.NonZero.{non_zero_u32_get as number}
use Rattle.quick_cache_store.proofs.pool.StackLemmas.{occupied_within, occupied_item}
use Rattle.quick_cache_store.proofs.pool.Pool.item.Goals as goal

pub index-requires : goal.index-requires
index-requires g c =
    let i = c.self.inside in
    let some = rw (← c.self.view_is) at c.requires in
    let within = occupied_within i.free.items (number c.args.token) i.items.items some in
    omega (arith, within.1)

pub returns : goal.returns
returns g c =
    let i = c.self.inside in
    let some = rw (← c.self.view_is) at c.requires in
    record {
      item = rw (← c.self.view_is) (occupied_item i.free.items (number c.args.token) c.place.result
          i.items.items c.index.result.now c.place.ensures some
          ∙ ap Some (sym c.index.ensures));
    }
