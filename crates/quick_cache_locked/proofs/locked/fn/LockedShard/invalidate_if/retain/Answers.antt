use Rattle.std.proofs.Common.{refl}
use Rattle.quick_cache_locked.proofs.locked.fn.LockedShard.invalidate_if.retain.Goals as goal

-- the test was called at the key
pub returns : goal.returns
returns g c = (
  c.test.result,
  record { shown = c.args.key; shows = refl; says = record { met = c.test.ensures } },
  refl,
)
