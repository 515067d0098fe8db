use Rattle.std.specs.Int.NonZero.{non_zero_u32_get as number}
use Rattle.quick_cache_store.specs.Lists.{HeldItem, FindsItem}
use Rattle.quick_cache_shard.proofs.PlaceLemmas.{IfSome-map, HasItem-place, HasItem-resident}
use Rattle.quick_cache_shard.proofs.shard.CacheShard.token_of.Goals as goal

-- the item that was found stands at the token
pub returns-clause-token : goal.returns-clause-token
returns-clause-token g c =
    let stands_for = g.Q.Equivalent.equivalent c.args.query.now in
    let lists = c.self.inside.contents.lists in
    rw (← c.self.view_is)
    (IfSome-map (λ token. FindsItem stands_for c.args.hash lists (number token)) _ c.token_of.result
    (λ token finds.
    let held : HeldItem g.row.K.Denot g.row.V.Denot =
    record { token = number token; hash = c.args.hash; item = finds.item } in
    record {
      item = finds.item;
      stands = record {
        place = HasItem-place lists held finds.stands;
        there = HasItem-resident lists held finds.stands;
      };
      passes = finds.passes;
    }) c.token_of.ensures.finds)
