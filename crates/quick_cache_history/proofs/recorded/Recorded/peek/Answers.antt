use Rattle.quick_cache_history.proofs.recorded.Recorded.peek.Goals as goal

-- the shard behind the lock of the key's place shows it
pub returns-clause-shows : goal.returns-clause-shows
returns-clause-shows g c = rw (← c.place_of-place.ensures.number) (record {
  shard = c.look.result.now;
  stands = c.look.ensures.run;
  holds = c.peek.ensures.peeks;
})
