use Rattle.std.proofs.lemmas.Result.{on_ok_weaker}
use Rattle.quick_cache_history.proofs.recorded.Recorded.insert.Goals as goal

-- the shard behind the lock of the key's place is the end of the run
pub returns-clause-run : goal.returns-clause-run
returns-clause-run g c = rw (← c.place_of-place.ensures.number)
    (on_ok_weaker c.insert.result
    (λ run. record { shard = c.insert.new.self.shard; stands = run; holds = tt })
    c.insert.ensures.run)
