use Rattle.std.proofs.Common.{false, inr}
use Rattle.quick_cache_loading.specs.Fitting.{FitsIfClonesDo}
use Rattle.quick_cache_loading.specs.Waiters.{IsWanted}
use Rattle.quick_cache_guard.specs.Answers.{WasTold}
use Rattle.quick_cache_guard.proofs.AnswerLemmas.{answered, told_so}
use Rattle.quick_cache_guard.proofs.joining.Waiting.poll.Goals as goal

-- it answers as it is told
pub returns-in-Ok-clause-answers : goal.returns-in-Ok-clause-answers
returns-in-Ok-clause-answers g c = rw c.answer.ensures (answered
    (IsWanted c.args.wants (FitsIfClonesDo g.L.Lifecycle.fits g.V.Clone.is_clone
    (g.Q.Equivalent.equivalent c.args.query.now)))
    (g.Q.ToKey.to_key_gives c.args.query.now) _ c.args.self.load.key c.in-Ok.told
    c.requires.keyed c.in-Ok.ensures.told)

pub returns-in-Ok-clause-cause : goal.returns-in-Ok-clause-cause
returns-in-Ok-clause-cause g c =
    let stands_for = g.Q.Equivalent.equivalent c.args.query.now in
    rw c.answer.ensures (told_so (g.S.LoadingShard.shows stands_for)
    (g.S.LoadingShard.refuses stands_for)
    (WasTold g.V.Clone.is_clone stands_for c.args.wants false) c.args.self.load.key
    c.in-Ok.told (inr (_, c.in-Ok.ensures.looks)))
