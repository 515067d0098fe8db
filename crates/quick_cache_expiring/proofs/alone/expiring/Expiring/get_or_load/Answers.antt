use Rattle.std.proofs.Common.{rules, refl}
use Rattle.quick_cache_shard.specs.WalksFrom.{number_or_zero}
use Rattle.quick_cache_expiring.specs.Entries.{Entries}
use Rattle.quick_cache_expiring.proofs.LoadLemmas.{Fetches-weaker, KeepsTerms-after}
use Rattle.quick_cache_expiring.proofs.alone.expiring.Expiring.get_or_load.Goals as goal

-- what is over goes first, and the loader's value has the new end
pub returns : goal.returns
returns g c =
    let expires = rw (← c.self.view_is) at c.expires-over.ensures.expires in
    let mid : Entries g.row.K.Denot g.row.V.Denot g.row.We.Denot g.row.B.Denot g.row.L.Denot =
    record {
      cache = c.self.inside.cache;
      expired = c.self.inside.expired;
      refused = c.self.inside.refused;
      from = number_or_zero c.self.inside.from;
    } in
    record {
      fetches = rw (← c.end_of-until.ensures, c.refuses.ensures, c.fetch_refused.ensures) (record {
        over = c.expires-over.result;
        mid = mid;
        expires = expires;
        told = c.get_or_load-answer.result;
        fetches = Fetches-weaker _ _ _ _ _ _ _ _ _ _ _ (λ r given. search rules) _ _ _
            c.get_or_load-answer.ensures.fetches;
        values = c.without_end.ensures;
        same = KeepsTerms-after c.args.self.now.cache c.self.inside.cache
            c.get_or_load-answer.new.self expires.same c.get_or_load-answer.ensures.same;
        rest = refl;
      });
    }
