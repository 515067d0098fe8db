use Rattle.std.proofs.Common.{drop}
use Rattle.qcrun_parts.specs.Printed.{pairs_text}
use Rattle.qcrun_parts.proofs.PrintLemmas.{HasPrinted}
use Rattle.qcrun_parts.proofs.serving.print.print_pairs.Given as goal

-- what is printed, and what is left to print, is the text of all pairs
abbrev pub invariant-loop-key : goal.invariant-loop-key
invariant-loop-key g l =
    HasPrinted (g.W.Write.contents l.fn.writer) (g.W.Write.contents l.writer)
    (pairs_text l.fn.pairs) (pairs_text (drop l.key-index l.pairs))
