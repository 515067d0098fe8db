use Rattle.std.proofs.Common.{false, inl}
use Rattle.quick_cache_loading.specs.declared.waiting.waited.Wants.{Wants}
use Rattle.quick_cache_guard.specs.Answers.{ToldOnJoining, WasTold}
use Rattle.quick_cache_guard.proofs.AnswerLemmas.{joined_so}
use Rattle.quick_cache_guard.proofs.guard.PlaceholderGuard.join_and_wait.Goals as goal

-- it was told so as it waited, or when it came
pub returns-in-Err-clause-cause : goal.returns-in-Err-clause-cause
returns-in-Err-clause-cause g c =
    let stands_for = g.Q.Equivalent.equivalent c.args.query.now in
    joined_so (g.S.LoadingShard.shows stands_for) (g.S.LoadingShard.refuses stands_for)
    (ToldOnJoining g.V.Clone.is_clone stands_for Wants.Value false)
    (WasTold g.V.Clone.is_clone stands_for Wants.Value false) (λ told is. inl is) c.in-Err.told
    c.in-Err.ensures.cause
