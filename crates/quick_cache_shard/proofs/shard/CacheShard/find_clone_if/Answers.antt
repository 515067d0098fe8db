use Rattle.std.proofs.Common.{Bool, refl, subst}
use Rattle.std.specs.Fn.{FnOnceReturnsAt}
use Rattle.std.proofs.lemmas.Fn.{gave_at}
use Rattle.quick_cache_model.specs.Lookups.{Sees}
use Rattle.quick_cache_shard.specs.Shared.{PeeksIf}
use Rattle.quick_cache_shard.proofs.shard.CacheShard.find_clone_if.Goals as goal

-- nothing was found
pub returns-in_default-clause-peeks : goal.returns-in_default-clause-peeks
returns-in_default-clause-peeks g c = rw (← c.self.view_is) (PeeksIf.is_absent c.in_default.ensures)

-- the test is asked of the value of the item that was found
pub test-requires : goal.test-requires
test-requires g c =
    let there = c.in-Some.ensures in
    let callable = rw (← c.self.view_is) at c.requires.callable in
    callable there.place there.before c.in-Some.item there.after there.at c.value.result
    c.value.ensures

-- which fails
pub returns-then-not-test-clause-peeks : goal.returns-then-not-test-clause-peeks
returns-then-not-test-clause-peeks g c =
    let there = c.in-Some.ensures in
    rw (← c.self.view_is)
    (PeeksIf.fails c.in-Some.item.value
    (Sees.is_there there.place there.before c.in-Some.item there.after there.at)
    (subst (λ (said : Bool). FnOnceReturnsAt g.F.FnOnce c.args.test c.in-Some.item.value said)
    c.if-not-test.true
    (subst (λ value. FnOnceReturnsAt g.F.FnOnce c.args.test value c.test.result) c.value.ensures
    (gave_at g.F.FnOnce c.test.ensures refl))))

-- or passes, and the copy is a clone of it
pub returns-in-Ok-clause-peeks : goal.returns-in-Ok-clause-peeks
returns-in-Ok-clause-peeks g c =
    let there = c.in-Some.ensures in
    rw (← c.self.view_is)
    (PeeksIf.passes c.in-Some.item.value c.in-Ok.copy
    (Sees.is_there there.place there.before c.in-Some.item there.after there.at)
    (subst (λ (said : Bool). FnOnceReturnsAt g.F.FnOnce c.args.test c.in-Some.item.value said)
    c.if-not-test.false
    (subst (λ value. FnOnceReturnsAt g.F.FnOnce c.args.test value c.test.result) c.value.ensures
    (gave_at g.F.FnOnce c.test.ensures refl)))
    (subst (λ value. g.V.Clone.is_clone value c.in-Ok.copy) c.value-2.ensures
    c.in-Ok.ensures.cases))

pub returns-in-Err-clause-peeks : goal.returns-in-Err-clause-peeks
returns-in-Err-clause-peeks g c =
    let there = c.in-Some.ensures in
    rw (← c.self.view_is)
    (PeeksIf.refuses c.in-Some.item.value
    (Sees.is_there there.place there.before c.in-Some.item there.after there.at)
    (subst (λ (said : Bool). FnOnceReturnsAt g.F.FnOnce c.args.test c.in-Some.item.value said)
    c.if-not-test.false
    (subst (λ value. FnOnceReturnsAt g.F.FnOnce c.args.test value c.test.result) c.value.ensures
    (gave_at g.F.FnOnce c.test.ensures refl))))
