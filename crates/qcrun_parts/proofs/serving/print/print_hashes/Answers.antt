use Rattle.std.proofs.Common.{ap, ◌∙◌}
use Rattle.qcrun_parts.specs.Printed.{spaced_number, ghosts_text}
use Rattle.qcrun_parts.proofs.PrintLemmas.{HasPrinted-more, HasPrinted-all, ghosts_text-cons, ghosts_text-nil}
use Rattle.qcrun_parts.proofs.serving.print.print_hashes.Goals as goal

-- one hash more
pub loop-hash-preserved : goal.loop-hash-preserved
loop-hash-preserved g c =
    HasPrinted-more _ (g.W.Write.contents c.loop-hash.writer) _ _ _ (spaced_number c.in-Some.hash) _
    c.loop-hash.invariant (ap ghosts_text c.in-Some.ensures.steps ∙ ghosts_text-cons _ _)
    c.in_ok-write.ensures.bytes

-- no hash is left
pub returns : goal.returns
returns g c =
    HasPrinted-all _ _ _ _ c.loop-hash.invariant (ghosts_text-nil _ c.in-None.ensures.steps.0)
