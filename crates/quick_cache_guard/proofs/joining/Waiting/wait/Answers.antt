use Rattle.std.proofs.Common.{false, inr}
use Rattle.quick_cache_loading.specs.Fitting.{FitsIfClonesDo}
use Rattle.quick_cache_loading.specs.declared.waiting.waited.Wants.{Wants}
use Rattle.quick_cache_guard.specs.Answers.{WasTold}
use Rattle.quick_cache_guard.proofs.AnswerLemmas.{answered, told_so}
use Rattle.quick_cache_guard.proofs.joining.Waiting.wait.Goals as goal

-- it answers as it is told
pub returns-clause-answers : goal.returns-clause-answers
returns-clause-answers g c = rw c.answer.ensures (answered
    (FitsIfClonesDo g.L.Lifecycle.fits g.V.Clone.is_clone (g.Q.Equivalent.equivalent c.args.query.now))
    (g.Q.ToKey.to_key_gives c.args.query.now) _ c.args.self.load.key c.wait-told.result
    c.requires.keyed c.wait-told.ensures.told)

pub returns-clause-cause : goal.returns-clause-cause
returns-clause-cause g c =
    let stands_for = g.Q.Equivalent.equivalent c.args.query.now in
    rw c.answer.ensures (told_so (g.S.LoadingShard.shows stands_for)
    (g.S.LoadingShard.refuses stands_for)
    (WasTold g.V.Clone.is_clone stands_for Wants.Value false) c.args.self.load.key
    c.wait-told.result (inr (_, c.wait-told.ensures.looks)))
