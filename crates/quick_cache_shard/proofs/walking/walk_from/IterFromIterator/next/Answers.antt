use Rattle.std.proofs.Common.{refl, arith}
use Rattle.std.specs.Int.NonZero.{non_zero_u32_get as number}
use Rattle.quick_cache_store.specs.Lists.{number_or_zero}
use Rattle.quick_cache_shard.proofs.NextLemmas.{none-ends, first-next}
use Rattle.quick_cache_shard.proofs.PlaceLemmas.{HasItem-resident}
use Rattle.quick_cache_shard.proofs.walking.walk_from.IterFromIterator.next.Goals as goal

pub item-item-requires : goal.item-item-requires
item-item-requires g c = (c.first_above.ensures.found c.in-Some.token c.in-Some.is).1

-- no item is left
pub returns-in_default-clause-steps : goal.returns-in_default-clause-steps
returns-in_default-clause-steps g c =
    rw (← c.self.view_is) (
      none-ends c.self.inside.lists.now (number_or_zero c.self.inside.after) c.first_above.result
          c.in_default.is c.first_above.ensures,
      refl,
    )

-- the item of the least token above is shown
pub returns-clause-steps : goal.returns-clause-steps
returns-clause-steps g c =
    let lists = c.self.inside.lists.now in
    let stands = c.item-item.ensures in
    rw (← c.self.view_is) (record {
      item = c.item-item.result;
      next = first-next lists (number_or_zero c.self.inside.after) c.first_above.result
          c.in-Some.token c.in-Some.is c.first_above.ensures c.item-item.result stands;
      there = HasItem-resident lists
          (record { token = number c.in-Some.token; hash = stands.0; item = c.item-item.result })
          stands.1;
      key = c.key.ensures;
      value = c.value.ensures;
      goes_on = refl;
    })

-- each token is above the last one
pub returns-clause-goes : goal.returns-clause-goes
returns-clause-goes g c =
    let above = (c.first_above.ensures.found c.in-Some.token c.in-Some.is).0 in
    rw (← c.self.view_is) (record {
      on = λ finite. (tt, finite, omega (arith, above, c.in-Some.token.ok));
      keeps = tt;
      rests = λ _. tt;
    })
