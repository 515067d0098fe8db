use Rattle.std.proofs.Common.{subst}
use Rattle.std.specs.Io.KnownBytes.{Appends}
use Rattle.promises.proofs.ServedLemmas.{never-bad, never-served, tells-second}
use Rattle.promises.proofs.alone.served.end_at_the_second.Goals as goal

pub returns-clause-status : goal.returns-clause-status
returns-clause-status g c = λ ended.
    let bad = c.requires.bad in
    let known = rw bad.1 at (c.serve.ensures ended) in
    (tells-second _ bad.0 bad.2 bad.3 (λ old new printed. never-bad _ _ _ printed)
    (λ old new printed. never-served _ bad.0 bad.3 bad.4 _ _ printed) _ _ known.0 known.1).1

pub returns-clause-tells : goal.returns-clause-tells
returns-clause-tells g c = λ ended.
    let bad = c.requires.bad in
    let known = rw bad.1 at (c.serve.ensures ended) in
    let told = tells-second _ bad.0 bad.2 bad.3 (λ old new printed. never-bad _ _ _ printed)
    (λ old new printed. never-served _ bad.0 bad.3 bad.4 _ _ printed) _ _ known.0 known.1 in (
      told.0,
      subst (λ text. Appends (g.W.Write.contents c.args.writer.now)
          (g.W.Write.contents c.serve.new.writer) text) told.2 known.2,
    )
