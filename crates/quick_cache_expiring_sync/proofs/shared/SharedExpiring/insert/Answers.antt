use Rattle.quick_cache_expiring_sync.proofs.shared.SharedExpiring.insert.Goals as goal

pub returns : goal.returns
returns g c = record { answers = rw (← c.end_of-until.ensures) c.insert.ensures.answers }
