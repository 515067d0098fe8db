use Rattle.quick_cache_shard.proofs.InsertLemmas.{Inserts-pair}
use Rattle.quick_cache_unsync.proofs.cache.Cache.put.Goals as goal

-- the pair that comes back is the one that was handed in
pub returns-in-Err-clause-puts : goal.returns-in-Err-clause-puts
returns-in-Err-clause-puts g c =
    let done = rw c.in-Err.is at c.insert.ensures.inserts in
    record {
      first = done.first;
      last = done.last;
      begins = done.begins;
      does = Inserts-pair _ _ _ _ _ _ _ _ _ _ _ done.does;
    }
