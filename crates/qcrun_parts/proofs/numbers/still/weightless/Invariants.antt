use Rattle.std.proofs.Common.{◌≡◌, ◌++◌, filter}
use Rattle.qcrun_parts.specs.Still.{is_weightless}
use Rattle.qcrun_parts.proofs.numbers.still.weightless.Given as goal

-- what was found, and what is left to find, is what all pairs have
abbrev pub invariant-loop-key : goal.invariant-loop-key
invariant-loop-key g l =
    l.light.items ++ filter is_weightless l.key-iterator ≡ filter is_weightless l.fn.pairs
