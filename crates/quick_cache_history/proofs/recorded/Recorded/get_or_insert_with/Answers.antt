use Rattle.quick_cache_history.specs.Loads.{Gives}
use Rattle.quick_cache_history.proofs.LoadLemmas.{inserted-gives, kept-gives}
use Rattle.quick_cache_history.proofs.recorded.Recorded.get_or_insert_with.Goals as goal

-- what was found stands there
pub returns-in-Ok-Some-clause-gives : goal.returns-in-Ok-Some-clause-gives
returns-in-Ok-Some-clause-gives g c = Gives.stood (record {
  longer = c.get.ensures.longer;
  seat = c.get.ensures.seat;
  shows = rw c.in-Ok-Some.field-0-is at c.in-Ok-Some.ensures.shows;
})

-- so does what stood by the time that the value was loaded
pub returns-in-Ok-Kept-clause-gives : goal.returns-in-Ok-Kept-clause-gives
returns-in-Ok-Kept-clause-gives g c = kept-gives _ _ _ _ _ c.args.key c.args.seat.now c.get.new.seat
    c.get.ensures.longer c.get.ensures.seat _ c.in-Ok.value c.in-Ok-clone.copy c.in-Ok.ensures
    c.in-Ok-clone.ensures.cases _ c.entry.new.seat c.in-Ok-Kept.first
    (rw c.in-Ok-Kept.field-0-is at c.in-Ok-Kept.ensures.enters) (λ found chosen said. said.1)

-- and where nothing was, what was loaded was inserted
pub returns-in-Ok-Inserted-clause-gives : goal.returns-in-Ok-Inserted-clause-gives
returns-in-Ok-Inserted-clause-gives g c = inserted-gives _ _ _ _ _ c.args.key c.args.seat.now
    c.get.new.seat c.get.ensures.longer c.get.ensures.seat _ c.in-Ok.value c.in-Ok-clone.copy
    c.in-Ok.ensures c.in-Ok-clone.ensures.cases _ c.entry.new.seat
    (rw c.in-Ok-Inserted.field-0-is at c.in-Ok-Inserted.ensures.enters)
    (λ found chosen said. said.1)
