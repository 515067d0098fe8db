use Rattle.quick_cache_loading.specs.declared.waiting.waited.Wants.{Wants}
use Rattle.quick_cache_guard.specs.Answers.{ToldOnJoining}
use Rattle.quick_cache_guard.proofs.AnswerLemmas.{entry_joined}
use Rattle.quick_cache_guard.proofs.guard.PlaceholderGuard.act.Goals as goal

-- it answers as one who joins
pub returns-clause-cause : goal.returns-clause-cause
returns-clause-cause g c =
    let stands_for = g.Q.Equivalent.equivalent c.args.query.now in
    rw c.entry_of.ensures (entry_joined (g.S.LoadingShard.shows stands_for)
    (g.S.LoadingShard.refuses stands_for) _
    (ToldOnJoining g.V.Clone.is_clone stands_for Wants.End c.args.is_over) _ c.in-Err-join.told
    c.in-Err-join.ensures.answers c.in-Err-join.ensures.cause)
