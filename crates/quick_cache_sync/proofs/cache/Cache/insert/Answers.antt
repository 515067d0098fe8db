use Rattle.quick_cache_sync.proofs.cache.Cache.insert.Goals as goal

-- the request state was made as a default one, and the call led it on
pub returns : goal.returns
returns g c =
    let some = c.insert_with_lifecycle.ensures.answers in
    record {
      answers = record {
        shard = some.shard;
        kept = some.kept;
        holds = record {
          new = some.holds.new;
          step = record {
            first = c.default-state.result;
            last = c.insert_with_lifecycle.new.state;
            begins = c.default-state.ensures;
            does = some.holds.step;
          };
        };
      };
    }
