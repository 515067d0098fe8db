use Rattle.std.proofs.Common.{inl, inr, subst}
use Rattle.std.specs.Prelude.{IfSome}
use Rattle.quick_cache_loading.specs.declared.waiting.waited.Wants.{Wants}
use Rattle.quick_cache_guard.specs.Answers.{ToldOnJoining, WasToldOnce}
use Rattle.quick_cache_guard.specs.Entries.{HasEntryCause, entry_of}
use Rattle.quick_cache_guard.proofs.AnswerLemmas.{entry_joined_so, entry_told_so}
use Rattle.quick_cache_guard.proofs.guard.PlaceholderGuard.entry.Goals as goal

-- the callback was not called yet, so what it leaves fits
pub act-requires-clause-leaves : goal.act-requires-clause-leaves
act-requires-clause-leaves g c = rw c.loop.invariant.2 c.requires.leaves

-- it answers as it was told when it came
pub returns-in-Err-Some-clause-cause : goal.returns-in-Err-Some-clause-cause
returns-in-Err-Some-clause-cause g c =
    let shows = g.V.Clone.is_clone in
    let stands_for = g.Q.Equivalent.equivalent c.args.query.now in
    entry_joined_so (g.S.LoadingShard.refuses stands_for)
    (ToldOnJoining shows stands_for Wants.End c.is_over.result) (WasToldOnce shows stands_for Wants.End)
    (λ told is. (c.is_over.result, inl is)) c.in-Err-Some.answer
    (rw c.in-Err-Some.field-0-is at c.in-Err-Some.ensures.cause)

-- or where it waited
pub returns-in-Some-entry_of-clause-cause : goal.returns-in-Some-entry_of-clause-cause
returns-in-Some-entry_of-clause-cause g c =
    let shows = g.V.Clone.is_clone in
    let stands_for = g.Q.Equivalent.equivalent c.args.query.now in
    let told = c.wait_within-told.ensures.told in
    subst (λ answer. IfSome answer (HasEntryCause (WasToldOnce shows stands_for Wants.End)
    (g.S.LoadingShard.refuses stands_for))) c.in-Some-entry_of.is
    (rw (c.entry_of.ensures, told.2) (entry_told_so (g.S.LoadingShard.refuses stands_for) _
    (WasToldOnce shows stands_for Wants.End) c.in-Ok.waiting.load.key told.0
    (_, inr (_, told.1))))
