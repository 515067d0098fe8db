use Rattle.std.proofs.Common.{Some, inl, inr, subst}
use Rattle.quick_cache_loading.specs.declared.waiting.waited.Wants.{Wants}
use Rattle.quick_cache_guard.specs.Answers.{ToldOnJoining, HasCause, WasToldOnce}
use Rattle.quick_cache_guard.proofs.AnswerLemmas.{joined_so, told_so}
use Rattle.quick_cache_guard.proofs.guard.PlaceholderGuard.join.Goals as goal

-- it answers as it was told when it came
pub returns-in-Err-Some-clause-cause : goal.returns-in-Err-Some-clause-cause
returns-in-Err-Some-clause-cause g c =
    let shows = g.V.Clone.is_clone in
    let stands_for = g.Q.Equivalent.equivalent c.args.query.now in
    joined_so (g.S.LoadingShard.shows stands_for) (g.S.LoadingShard.refuses stands_for)
    (ToldOnJoining shows stands_for Wants.Value c.is_over.result)
    (WasToldOnce shows stands_for Wants.Value) (λ told is. (c.is_over.result, inl is))
    (Some c.in-Err-Some.answer)
    (rw c.in-Err-Some.field-0-is at c.in-Err-Some.ensures.cause)

-- or where it waited
pub returns-in-Some-wait_within-clause-cause : goal.returns-in-Some-wait_within-clause-cause
returns-in-Some-wait_within-clause-cause g c =
    let shows = g.V.Clone.is_clone in
    let stands_for = g.Q.Equivalent.equivalent c.args.query.now in
    let told = c.wait_within.ensures.told in
    subst (HasCause (WasToldOnce shows stands_for Wants.Value) (g.S.LoadingShard.shows stands_for)
    (g.S.LoadingShard.refuses stands_for)) c.in-Some-wait_within.is
    (rw told.2 (told_so (g.S.LoadingShard.shows stands_for) (g.S.LoadingShard.refuses stands_for)
    (WasToldOnce shows stands_for Wants.Value) c.in-Ok.waiting.load.key told.0 (_, inr (_, told.1))))
