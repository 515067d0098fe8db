use Rattle.std.proofs.Common.{Bool, Ok, None, Some, refl, subst}
use Rattle.std.specs.Fn.{FnOnceReturnsAt}
use Rattle.std.proofs.lemmas.Fn.{gave_at}
use Rattle.quick_cache_shard.specs.Shared.{PeeksIf}
use Rattle.quick_cache_locked.proofs.ChangeLemmas.{PeeksIf-fits, seen-fits, sees-nothing}
use Rattle.quick_cache_locked.proofs.locked.LockedShard.peek_if.Goals as goal

-- nothing was found
pub returns-in_default-clause-peeks : goal.returns-in_default-clause-peeks
returns-in_default-clause-peeks g c =
    rw (← c.self.view_is)
    (PeeksIf.is_absent (sees-nothing (g.Q.Equivalent.equivalent c.args.query.now)
    c.self.inside.shard.state None c.in_default.ensures.sees refl))

-- the test is shown a value that fits
pub test-requires : goal.test-requires
test-requires g c =
    c.requires.callable c.in-Some.value.now
    (seen-fits g.L.Lifecycle.fits (g.Q.Equivalent.equivalent c.args.query.now)
    c.self.inside.shard.state c.self.invariant (Some c.in-Some.value.now) c.in-Some.ensures.sees)
    c.in-Some.value refl

-- which fails
pub returns-then-not-test-clause-peeks : goal.returns-then-not-test-clause-peeks
returns-then-not-test-clause-peeks g c =
    rw (← c.self.view_is)
    (PeeksIf.fails c.in-Some.value.now c.in-Some.ensures.sees
    (subst (λ (said : Bool). FnOnceReturnsAt g.F.FnOnce c.args.test c.in-Some.value.now said)
    c.if-not-test.true (gave_at g.F.FnOnce c.test.ensures refl)))

-- or passes, and the copy is a clone of it
pub returns-in-Ok-clause-peeks : goal.returns-in-Ok-clause-peeks
returns-in-Ok-clause-peeks g c =
    rw (← c.self.view_is)
    (PeeksIf.passes c.in-Some.value.now c.in-Ok.copy c.in-Some.ensures.sees
    (subst (λ (said : Bool). FnOnceReturnsAt g.F.FnOnce c.args.test c.in-Some.value.now said)
    c.if-not-test.false (gave_at g.F.FnOnce c.test.ensures refl)) c.in-Ok.ensures.cases)

pub returns-in-Ok-clause-fits : goal.returns-in-Ok-clause-fits
returns-in-Ok-clause-fits g c clones =
    PeeksIf-fits g.L.Lifecycle.fits (g.Q.Equivalent.equivalent c.args.query.now)
    c.self.inside.shard.state c.self.invariant g.V.Clone.is_clone
    (FnOnceReturnsAt g.F.FnOnce c.args.test) (Ok (Ok c.in-Ok.copy))
    (PeeksIf.passes c.in-Some.value.now c.in-Ok.copy c.in-Some.ensures.sees
    (subst (λ (said : Bool). FnOnceReturnsAt g.F.FnOnce c.args.test c.in-Some.value.now said)
    c.if-not-test.false (gave_at g.F.FnOnce c.test.ensures refl)) c.in-Ok.ensures.cases) clones

pub returns-in-Err-clause-peeks : goal.returns-in-Err-clause-peeks
returns-in-Err-clause-peeks g c =
    rw (← c.self.view_is)
    (PeeksIf.refuses c.in-Some.value.now c.in-Some.ensures.sees
    (subst (λ (said : Bool). FnOnceReturnsAt g.F.FnOnce c.args.test c.in-Some.value.now said)
    c.if-not-test.false (gave_at g.F.FnOnce c.test.ensures refl)))
