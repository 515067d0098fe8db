use Rattle.std.proofs.Common.{ap, ◌∙◌}
use Rattle.qcrun_parts.specs.Printed.{item_text, items_text}
use Rattle.qcrun_parts.proofs.PrintLemmas.{Appends-item, HasPrinted-more, HasPrinted-all, items_text-cons, items_text-nil}
use Rattle.qcrun_parts.proofs.serving.print.print_items.Goals as goal

-- one item more
pub loop-key-preserved : goal.loop-key-preserved
loop-key-preserved g c =
    HasPrinted-more _ (g.W.Write.contents c.loop-key.writer) _ _ _
    (item_text (c.in-Some.key.now, c.in-Some.value.now, c.in-Some.mark)) _ c.loop-key.invariant
    (ap items_text c.in-Some.ensures.steps ∙ items_text-cons _ _)
    (Appends-item _ _ c.in-Some.key.now c.in-Some.value.now c.in-Some.mark
    c.in_ok-write.ensures.bytes)

-- no item is left
pub returns : goal.returns
returns g c =
    HasPrinted-all _ _ _ _ c.loop-key.invariant (items_text-nil _ c.in-None.ensures.steps.0)
