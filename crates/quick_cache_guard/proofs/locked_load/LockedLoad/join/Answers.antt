use Rattle.quick_cache_guard.specs.Answers.{ToldOnJoining}
use Rattle.quick_cache_guard.proofs.AnswerLemmas.{told_so}
use Rattle.quick_cache_guard.proofs.locked_load.LockedLoad.join.Goals as goal

-- it answers as it is told
pub returns-in-Err-clause-cause : goal.returns-in-Err-clause-cause
returns-in-Err-clause-cause g c =
    let stands_for = g.Q.Equivalent.equivalent c.args.query.now in
    rw c.answer.ensures (told_so (g.S.LoadingShard.shows stands_for)
    (g.S.LoadingShard.refuses stands_for)
    (ToldOnJoining g.V.Clone.is_clone stands_for c.args.wants c.args.is_over) c.args.key
    c.in-Err.told (_, c.in-Err.ensures.enters))
