use Rattle.std.proofs.Common.{take}
use Rattle.std.specs.List.{AllZip}
use Rattle.read_through.specs.Many.{missing}
use Rattle.read_through.proofs.many.missing_of.Given as goal

-- the missing keys up to here are asked for
abbrev pub invariant-loop-index : goal.invariant-loop-index
invariant-loop-index g l = AllZip g.K.Clone.is_clone
    (missing (take l.index l.keys) (take l.index l.found)) l.asked.items
