use Rattle.std.proofs.Common.{length}
use Rattle.std.specs.NonZero.{non_zero_usize_get}
use Rattle.qcsim_parts.specs.Policies.{by_use}
use Rattle.qcsim_parts.proofs.CountLemmas.{IsCounted}
use Rattle.qcsim_parts.proofs.policies.least_recent.hits_by_use.Given as goal

abbrev pub invariant-loop-key : goal.invariant-loop-key
invariant-loop-key l =
    IsCounted by_use (non_zero_usize_get l.fn.capacity) l.fn.keys l.cache l.hits l.rest

abbrev pub decreases-loop-key : goal.decreases-loop-key
decreases-loop-key l = length l.rest
