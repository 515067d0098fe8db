use Rattle.promises.proofs.HistoryLemmas.{own-given}
use Rattle.promises.proofs.behind_a_lock.seats.load_into_its_shard.Goals as goal

-- what was loaded is the value that was handed in
pub returns-in-Ok : goal.returns-in-Ok
returns-in-Ok g c = own-given _ _ _ _ _ c.args.key _ _ (λ own said. cc said) _ _ c.in-Ok.loaded
    c.in-Ok.ensures.gives
