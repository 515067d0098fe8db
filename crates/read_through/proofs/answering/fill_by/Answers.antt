use Rattle.std.proofs.Common.{sym, subst, ◌∙◌}
use Rattle.std.specs.Prelude.{IfSome, IsTrue}
use Rattle.read_through.proofs.AnswerLemmas.{ClonesFit-loaded, IsOf-same}
use Rattle.read_through.proofs.answering.fill_by.Goals as goal

-- the guard's key is equal to the one for which it was loaded
pub insert-requires-clause-fits : goal.insert-requires-clause-fits
insert-requires-clause-fits g c =
    let same = g.met.K.Eq.laws.symm c.in-Some.guard c.args.key.now
    ∙ (subst
    (λ guard. IfSome guard (λ own. IsTrue (g.K.PartialEq.eq c.args.key.now own)))
    (sym c.in-Some.ensures.value)
    c.requires.same) in
    ClonesFit-loaded g.S.Source.gives g.K.PartialEq.eq g.met.K.Eq.laws g.V.Clone.is_clone
    c.requires.clones c.in-Some.guard c.args.loaded.now c.in-Ok.copy c.in-Ok.ensures.cases
    (IsOf-same g.S.Source.gives g.K.PartialEq.eq g.met.K.Eq.laws c.in-Some.guard c.args.key.now
    c.args.loaded.now.moment c.args.loaded.now.value same c.requires.source)
