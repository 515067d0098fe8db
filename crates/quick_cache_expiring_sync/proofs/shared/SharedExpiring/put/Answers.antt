use Rattle.quick_cache_expiring_sync.proofs.shared.SharedExpiring.put.Goals as goal

pub returns : goal.returns
returns g c = record { answers = rw (← c.end_of-until.ensures) c.put.ensures.answers }
