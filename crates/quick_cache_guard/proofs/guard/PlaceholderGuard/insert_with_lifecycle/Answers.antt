use Rattle.std.proofs.Common.{inl, inr}
use Rattle.quick_cache_guard.proofs.guard.PlaceholderGuard.insert_with_lifecycle.Goals as goal

-- the state may not be filled so
pub returns-in-Err-fill-clause-gone : goal.returns-in-Err-fill-clause-gone
returns-in-Err-fill-clause-gone g c =
    rw (← c.self.view_is) (c.self.inside.share, inl c.in-Err-fill.ensures.refused)

-- or the shard had no placeholder for it
pub returns-clause-gone : goal.returns-clause-gone
returns-clause-gone g c = rw (← c.self.view_is) (_, inr (_, c.in-Err-put.ensures.lacks))
