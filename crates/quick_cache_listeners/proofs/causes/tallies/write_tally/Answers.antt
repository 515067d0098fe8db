use Rattle.std.proofs.Common.{append_assoc}
use Rattle.std.proofs.Output.{has_written_of_eq}
use Rattle.quick_cache_listeners.specs.Tallies.{tally_text}
use Rattle.quick_cache_listeners.proofs.causes.tallies.write_tally.Goals as goal

-- src/causes/tallies.rt
pub returns : goal.returns
unfolding tally_text
returns g c =
    λ plain ok. has_written_of_eq _ _ _ _ _ (simp append_assoc) (c.write.ensures.writes plain ok)
