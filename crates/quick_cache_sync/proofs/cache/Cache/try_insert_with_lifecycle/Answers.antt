use Rattle.quick_cache_sync.proofs.cache.Cache.try_insert_with_lifecycle.Goals as goal

-- the shard behind the lock answered so, and was led on
pub returns-in-Ok-clause-answers : goal.returns-in-Ok-clause-answers
returns-in-Ok-clause-answers g c = record {
  shard = _;
  kept = c.in-Ok.ensures.kept;
  holds = record { new = _; step = c.in-Ok.ensures.inserts };
}
