use Rattle.qcrun_parts.specs.Printed.{items_text}
use Rattle.qcrun_parts.proofs.PrintLemmas.{HasPrinted}
use Rattle.qcrun_parts.proofs.serving.print.print_items.Given as goal

-- what is printed, and what is left to print, is the text of all items
abbrev pub invariant-loop-key : goal.invariant-loop-key
invariant-loop-key g l =
    HasPrinted (g.W.Write.contents l.fn.writer) (g.W.Write.contents l.writer)
    (items_text l.fn.items) (items_text l.key-iterator)
