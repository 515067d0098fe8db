use Rattle.quick_cache_history.proofs.recorded.Recorded.replace.Goals as goal

-- the shard behind the lock of the key's place is the end of the run
pub returns-clause-run : goal.returns-clause-run
returns-clause-run g c = rw (← c.place_of-place.ensures.number) (record {
  shard = c.replace.new.self.shard;
  stands = c.replace.ensures.run;
  holds = tt;
})
