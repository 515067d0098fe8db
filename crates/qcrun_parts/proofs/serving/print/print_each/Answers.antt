use Rattle.std.proofs.Common.{refl, ◌∙◌, ◌+◌, drop}
use Rattle.std.proofs.lemmas.List.{at_drop_more, at_drop_all}
use Rattle.qcrun_parts.specs.Printed.{event_lines}
use Rattle.qcrun_parts.proofs.PrintLemmas.{HasPrinted-more, HasPrinted-all, event_lines-cons, event_lines-nil}
use Rattle.qcrun_parts.proofs.serving.print.print_each.Goals as goal

-- one event more
pub loop-event-preserved : goal.loop-event-preserved
loop-event-preserved g c =
    HasPrinted-more _ (g.W.Write.contents c.loop-event.writer) _ _ _ _ _
    c.loop-event.invariant
    (at_drop_more event_lines c.args.events.now c.loop-event.event-index _ c.loop-event-test.true
    ∙ event_lines-cons _ (drop (c.loop-event.event-index + 1) c.args.events.now))
    c.in_ok-writeln.ensures.bytes

-- no event is left
pub returns : goal.returns
returns g c =
    HasPrinted-all _ _ _ _ c.loop-event.invariant
    (at_drop_all event_lines c.args.events.now c.loop-event.event-index c.loop-event-test.false
    ∙ event_lines-nil _ refl)
