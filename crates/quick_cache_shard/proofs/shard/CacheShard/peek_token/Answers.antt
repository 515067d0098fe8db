use Rattle.std.specs.Int.NonZero.{non_zero_u32_get as number}
use Rattle.quick_cache_store.specs.Lists.{HeldItem}
use Rattle.quick_cache_shard.proofs.PlaceLemmas.{HasItem-place, HasItem-resident, place-item}
use Rattle.quick_cache_shard.proofs.shard.CacheShard.peek_token.Goals as goal

-- no item has the token
pub returns-in_err-item-clause-shown : goal.returns-in_err-item-clause-shown
returns-in_err-item-clause-shown g c =
    rw (← c.self.view_is, c.from_residual.ensures)
    (λ key there. c.in_err-item.ensures
    (place-item c.self.inside.contents.lists (number c.args.token) key there))

-- the value that is shown is that of the item of the token
pub returns-clause-shown : goal.returns-clause-shown
returns-clause-shown g c =
    let is = c.in_ok-item.ensures in
    let held : HeldItem g.row.K.Denot g.row.V.Denot =
    record { token = number c.args.token; hash = is.0; item = c.in_ok-item.item } in
    rw (← c.self.view_is) (
      c.in_ok-item.item,
      record {
        place = HasItem-place c.self.inside.contents.lists held is.1;
        there = HasItem-resident c.self.inside.contents.lists held is.1;
      },
      c.value.ensures,
    )
