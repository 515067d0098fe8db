use Rattle.std.proofs.Common.{refl, slice_index_or, None, arith}
use Rattle.std.specs.Prelude.{IfSome}
use Rattle.read_through.specs.Answers.{IsOf}
use Rattle.read_through.proofs.AnswerLemmas.{ClonesFit-loaded, IfSome-fits}
use Rattle.read_through.proofs.ManyLemmas.{AllZip-found}
use Rattle.read_through.proofs.reading.ReadThrough.find_many.Goals as goal

-- so many were found
pub leave_serving-requires-clause-one_each : goal.leave_serving-requires-clause-one_each
leave_serving-requires-clause-one_each g c =
    omega (arith, c.in_ok-found.found.ok, c.in_ok-found.ensures.answers.one_each)

-- what a shard showed under a key is the source's
pub leave_serving-requires-clause-source : goal.leave_serving-requires-clause-source
leave_serving-requires-clause-source g c =
    AllZip-found
    (λ key it. IfSome it
    (λ loaded. IsOf g.S.Source.gives g.K.PartialEq.eq key loaded.moment loaded.value))
    c.args.keys.now c.in_ok-found.found.items c.in_ok-found.ensures.answers.one_each
    (λ index key inside is.
    let some = c.in_ok-found.ensures.answers.of_each index key inside is in
    IfSome-fits g.S.Source.gives g.K.PartialEq.eq g.met.K.Eq.laws key
    (slice_index_or c.in_ok-found.found.items index None)
    ((some.holds index key inside is refl).fits
    (ClonesFit-loaded g.S.Source.gives g.K.PartialEq.eq g.met.K.Eq.laws g.V.Clone.is_clone
    c.requires.clones)))
