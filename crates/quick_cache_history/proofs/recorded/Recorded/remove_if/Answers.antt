use Rattle.quick_cache_history.proofs.recorded.Recorded.remove_if.Goals as goal

-- the shard behind the lock of the key's place is the end of the run
pub returns-clause-run : goal.returns-clause-run
returns-clause-run g c = rw (← c.place_of-place.ensures.number) (record {
  shard = c.remove_if.new.self.shard;
  stands = c.remove_if.ensures.run;
  holds = c.remove_if.ensures.asks;
})
