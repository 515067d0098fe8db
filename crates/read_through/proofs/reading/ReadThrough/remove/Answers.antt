use Rattle.std.proofs.Common.{sym, subst}
use Rattle.read_through.specs.Answers.{IsOf}
use Rattle.read_through.proofs.AnswerLemmas.{IsOf-same}
use Rattle.read_through.proofs.reading.ReadThrough.remove.Goals as goal

-- what stood under an equal key was the source's
pub returns-in-Some : goal.returns-in-Some
returns-in-Some g c =
    let fits = c.in-Some.ensures.fits in
    subst
    (λ loaded. IsOf g.S.Source.gives g.K.PartialEq.eq c.args.key.now loaded.moment loaded.value)
    (sym c.in-Some.loaded-is)
    (IsOf-same g.S.Source.gives g.K.PartialEq.eq g.met.K.Eq.laws c.args.key.now fits.key
    c.in-Some.loaded.moment c.in-Some.loaded.value fits.stands fits.fits_key)
