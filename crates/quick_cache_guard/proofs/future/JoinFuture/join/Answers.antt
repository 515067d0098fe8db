use Rattle.std.proofs.Common.{◌≡◌, false, inl, rules}
use Rattle.quick_cache_loading.specs.declared.waiting.waited.Wants.{Wants}
use Rattle.quick_cache_guard.specs.Answers.{ToldOnJoining, WasTold}
use Rattle.quick_cache_guard.proofs.AnswerLemmas.{joined_so}
use Rattle.quick_cache_guard.proofs.future.JoinFuture.join.Goals as goal

-- it came to a placeholder, and was told so there
pub give-requires-clause-cause : goal.give-requires-clause-cause
give-requires-clause-cause g c =
    let query : c.self.inside.query.now ≡ c.args.self.now.query = search rules in
    let shows = g.V.Clone.is_clone in
    let stands_for = g.Q.Equivalent.equivalent c.self.inside.query.now in
    rw query at (joined_so (g.S.LoadingShard.shows stands_for)
    (g.S.LoadingShard.refuses stands_for) (ToldOnJoining shows stands_for Wants.Value false)
    (WasTold shows stands_for Wants.Value false) (λ told is. inl is) c.in-Err-join_once.told
    c.in-Err-join_once.ensures.cause)
