use Rattle.std.proofs.Common.{length}
use Rattle.std.specs.NonZero.{non_zero_usize_get}
use Rattle.qcsim_parts.specs.Policies.{by_age}
use Rattle.qcsim_parts.proofs.CountLemmas.{IsCounted}
use Rattle.qcsim_parts.proofs.policies.fifo.hits_by_age.Given as goal

abbrev pub invariant-loop-key : goal.invariant-loop-key
invariant-loop-key l =
    IsCounted by_age (non_zero_usize_get l.fn.capacity) l.fn.keys l.cache l.hits l.rest

abbrev pub decreases-loop-key : goal.decreases-loop-key
decreases-loop-key l = length l.rest
