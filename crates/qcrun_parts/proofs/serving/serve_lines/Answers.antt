use Rattle.qcrun_parts.proofs.RunLemmas.{Serving-more, ServesKnown-end, ServesKnown-told-bad, ServesKnown-told-long}
use Rattle.qcrun_parts.proofs.serving.serve_lines.Goals as goal

-- no line is left
pub returns-in-End : goal.returns-in-End
returns-in-End g c =
    ServesKnown-end g.S.LineServer.serves_line c.args.server _ _ _ _ _ _ _ _ c.loop-number.invariant
    (rw c.in-End.is at c.in_ok-read_line.ensures)

-- the line is too long
pub returns-in-TooLong : goal.returns-in-TooLong
returns-in-TooLong g c =
    ServesKnown-told-long g.S.LineServer.serves_line c.args.server _ _ _ _ _ _ _ _ _
    c.tell_bad_line.result c.tell_bad_line.ensures.ends c.loop-number.invariant
    (rw c.in-TooLong.is at c.in_ok-read_line.ensures) c.tell_bad_line.ensures.tells

-- the line is bad
pub returns-then-not-branch : goal.returns-then-not-branch
returns-then-not-branch g c =
    ServesKnown-told-bad g.S.LineServer.serves_line c.args.server _ _ _ _ _ _ _ _ _ _ _
    c.tell_bad_line-then-not-branch.result c.tell_bad_line-then-not-branch.ensures.ends
    c.loop-number.invariant (rw c.in-Whole.is at c.in_ok-read_line.ensures)
    (rw c.if-not-branch.true at (rw c.deref.ensures.value at c.in_ok-serve_line-in-Whole.ensures))
    c.tell_bad_line-then-not-branch.ensures.tells

-- the line was served
pub loop-number-preserved : goal.loop-number-preserved
loop-number-preserved g c =
    Serving-more g.S.LineServer.serves_line c.args.server _ _ _ _ _ _ _ _ _ _
    c.loop-number.invariant (rw c.in-Whole.is at c.in_ok-read_line.ensures)
    (rw c.if-not-branch.false at (rw c.deref.ensures.value at c.in_ok-serve_line-in-Whole.ensures))
