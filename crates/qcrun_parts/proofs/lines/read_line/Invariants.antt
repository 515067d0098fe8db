use Rattle.std.proofs.Common.{◌-◌, vec_len}
use Rattle.qcrun_parts.specs.Lines.{HasRead}
use Rattle.qcrun_parts.proofs.lines.read_line.Given as goal

-- what was read of the line stands in the buffer
abbrev pub invariant-loop-reader : goal.invariant-loop-reader
invariant-loop-reader g l =
    HasRead (g.R.Read.remaining l.fn.reader) l.line.items (g.R.Read.remaining l.reader)

abbrev pub decreases-loop-reader : goal.decreases-loop-reader
decreases-loop-reader g l = 201 - vec_len l.line
