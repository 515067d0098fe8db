use Rattle.std.proofs.Common.{◌∙◌, sym}
use Rattle.std.proofs.lemmas.Bool.{OnTrue_from}
use Rattle.quick_cache_policy.specs.Contents.{state_of}
use Rattle.quick_cache_policy.specs.Finding.{IsThere}
use Rattle.quick_cache_shard.specs.Shard.{HasItem}
use Rattle.quick_cache_shard.proofs.ShardLemmas.{MatchOption-some}
use Rattle.quick_cache_shard.proofs.shard.CacheShard.contains_from.Goals as goal

pub returns-clause-there : goal.returns-clause-there
returns-clause-there g c =
    let state = state_of g.P.SharedPlaceholder.ticket_of c.self.inside.contents in
    let stands_for = g.Q.Equivalent.equivalent c.args.query.now in
    rw (← c.self.view_is)
    (OnTrue_from c.is_some.result (HasItem stands_for state)
    (λ is. MatchOption-some _ (λ item. IsThere stands_for state item) c.peek_from.result
    (sym c.is_some.ensures ∙ is) c.peek_from.ensures
    (λ item there. record {
      place = there.place;
      before = there.before;
      item = item;
      after = there.after;
      at = there.at;
    })))
