use Rattle.qcrun_parts.specs.Printed.{ghosts_text}
use Rattle.qcrun_parts.proofs.PrintLemmas.{HasPrinted}
use Rattle.qcrun_parts.proofs.serving.print.print_hashes.Given as goal

-- what is printed, and what is left to print, is the text of all hashes
abbrev pub invariant-loop-hash : goal.invariant-loop-hash
invariant-loop-hash g l =
    HasPrinted (g.W.Write.contents l.fn.writer) (g.W.Write.contents l.writer)
    (ghosts_text l.fn.hashes) (ghosts_text l.hash-iterator)
