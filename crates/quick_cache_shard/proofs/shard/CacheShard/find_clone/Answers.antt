use Rattle.std.proofs.Common.{Some, subst, sym}
use Rattle.quick_cache_model.specs.Lookups.{Sees}
use Rattle.quick_cache_policy.specs.Contents.{state_of}
use Rattle.quick_cache_shard.proofs.shard.CacheShard.find_clone.Goals as goal

-- the copy is a clone of the value of the item that is there
pub returns-in-Ok-clause-shows : goal.returns-in-Ok-clause-shows
returns-in-Ok-clause-shows g c =
    let there = c.in-Some.ensures in
    rw (← c.self.view_is)
    (record {
      value = c.value.result.now;
      seen = subst (λ (shown : g.row.V.Denot). Sees (g.Q.Equivalent.equivalent c.args.query.now)
          (state_of g.P.SharedPlaceholder.ticket_of c.self.inside.contents) (λ item. item.value)
          (Some shown)) (sym c.value.ensures)
          (Sees.is_there there.place there.before c.in-Some.item there.after there.at);
      cloned = c.in-Ok.ensures.cases;
    })

-- there is an item, whose value could not be cloned
pub returns-in-Err-clause-there : goal.returns-in-Err-clause-there
returns-in-Err-clause-there g c =
    let there = c.in-Some.ensures in
    rw (← c.self.view_is)
    (record {
      place = there.place;
      before = there.before;
      item = c.in-Some.item;
      after = there.after;
      at = there.at;
    })
