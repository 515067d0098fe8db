use Rattle.std.proofs.Common.{refl, ◌∙◌, ◌+◌, drop}
use Rattle.std.proofs.lemmas.List.{at_drop_more, at_drop_all}
use Rattle.qcrun_parts.specs.Printed.{pairs_text}
use Rattle.qcrun_parts.proofs.PrintLemmas.{Appends-pair, HasPrinted-more, HasPrinted-all, pairs_text-cons, pairs_text-nil}
use Rattle.qcrun_parts.proofs.serving.print.print_pairs.Goals as goal

-- one pair more
pub loop-key-preserved : goal.loop-key-preserved
loop-key-preserved g c =
    HasPrinted-more _ (g.W.Write.contents c.loop-key.writer) _ _ _ _ _
    c.loop-key.invariant
    (at_drop_more pairs_text c.args.pairs.now c.loop-key.key-index (0, 0) c.loop-key-test.true
    ∙ pairs_text-cons _ (drop (c.loop-key.key-index + 1) c.args.pairs.now))
    (Appends-pair _ _ _ _ c.in_ok-write.ensures.bytes)

-- no pair is left
pub returns : goal.returns
returns g c =
    HasPrinted-all _ _ _ _ c.loop-key.invariant
    (at_drop_all pairs_text c.args.pairs.now c.loop-key.key-index c.loop-key-test.false
    ∙ pairs_text-nil _ refl)
