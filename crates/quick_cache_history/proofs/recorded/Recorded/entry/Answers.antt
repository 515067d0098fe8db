use Rattle.quick_cache_history.proofs.recorded.Recorded.entry.Goals as goal

-- the shard behind the lock of the key's place is the one that is entered
pub returns-clause-enters : goal.returns-clause-enters
returns-clause-enters g c = rw (← c.place_of-place.ensures.number) c.entry.ensures.enters
