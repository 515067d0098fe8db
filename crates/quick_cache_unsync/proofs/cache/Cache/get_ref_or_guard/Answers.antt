use Rattle.std.proofs.Common.{rules}
use Rattle.quick_cache_unsync.proofs.LoadLemmas.{counted-found}
use Rattle.quick_cache_unsync.proofs.cache.Cache.get_ref_or_guard.Goals as goal

-- the item that was found is there
pub invariant_of-self : goal.invariant_of-self
invariant_of-self g c =
    let up = rw c.in-Ok-Ok.field-0-is at c.in-Ok-Ok.ensures.takes in
    record {
      there = counted-found (g.Q.Equivalent.equivalent c.args.query.now) c.args.self.now.state up.0
          c.begin_load.new.self.state up.1;
      hash_is = search rules;
    }
