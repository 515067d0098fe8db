use Rattle.std.proofs.Common.{refl}
use Rattle.std.proofs.Output.{has_written_append}
use Rattle.quick_cache_listeners.proofs.causes.tallies.Tallies.write_written.Goals as goal

-- the lines of one cause, and behind them those of the other
pub returns : goal.returns
returns g c =
    λ plain ok.
    let first = c.in_ok-write_tally.ensures plain refl in
    has_written_append _ _ _ _ _ _ first (c.write_tally-2.ensures first.plain ok)
