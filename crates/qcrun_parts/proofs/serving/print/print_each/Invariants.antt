use Rattle.std.proofs.Common.{drop}
use Rattle.qcrun_parts.specs.Printed.{event_lines}
use Rattle.qcrun_parts.proofs.PrintLemmas.{HasPrinted}
use Rattle.qcrun_parts.proofs.serving.print.print_each.Given as goal

-- what is printed, and what is left to print, is the text of all events
abbrev pub invariant-loop-event : goal.invariant-loop-event
invariant-loop-event g l =
    HasPrinted (g.W.Write.contents l.fn.writer) (g.W.Write.contents l.writer)
    (event_lines l.fn.events) (event_lines (drop l.event-index l.events))
