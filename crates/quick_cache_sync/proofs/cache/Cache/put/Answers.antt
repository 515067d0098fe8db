use Rattle.quick_cache_shard.proofs.InsertLemmas.{Inserts-pair}
use Rattle.quick_cache_sync.proofs.cache.Cache.put.Goals as goal

-- the pair that comes back is the one that was handed in
pub returns-in-Err : goal.returns-in-Err
returns-in-Err g c =
    let some = rw c.in-Err.is at c.insert.ensures.answers in
    record {
      answers = record {
        shard = some.shard;
        kept = some.kept;
        holds = record {
          new = some.holds.new;
          step = record {
            first = some.holds.step.first;
            last = some.holds.step.last;
            begins = some.holds.step.begins;
            does = Inserts-pair _ _ _ _ _ _ _ _ _ _ _ some.holds.step.does;
          };
        };
      };
    }

-- and one that was taken is written
pub returns-in-Ok : goal.returns-in-Ok
returns-in-Ok g c = record { answers = rw c.in-Ok.is at c.insert.ensures.answers }
