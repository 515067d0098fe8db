use Rattle.std.proofs.Common.{◌≡◌, ℕ, suc, ◌+◌, ◌≤◌, None, length, refl, ap, arith}
use Rattle.quick_cache_containers.specs.LinkedSlab.{item_at, items}
use Rattle.quick_cache_containers.proofs.AtTokens.{length-with_token}
use Rattle.quick_cache_containers.proofs.IteratedItems.{first_left, none_left_past, none_passed_more}
use Rattle.quick_cache_containers.proofs.linked_slab.drain.DrainIterator.next.Goals as goal

pub returns-then-contains-clause-steps : goal.returns-then-contains-clause-steps
returns-then-contains-clause-steps g c =
    let at = c.loop-self.self in
    let kept = c.loop-self.invariant in
    let slots = at.slab.now.slots in
    let token = c.past-token.result.value in
    let long = length-with_token slots token None in
    let taken = c.in_ok-item.ensures in
    let took = first_left slots at.passed token c.in_ok-item.item c.past-token.ensures kept.0
    taken.item in
    let ready = none_passed_more slots at.passed token c.past-token.ensures (omega arith) kept.0 in
    rw (← kept.1, taken.removed) (took, (refl, omega arith), ready)

pub returns-then-contains-clause-goes : goal.returns-then-contains-clause-goes
returns-then-contains-clause-goes g c =
    let at = c.loop-self.self in
    let kept = c.loop-self.invariant in
    let slots = at.slab.now.slots in
    let token = c.past-token.result.value in
    let taken = c.in_ok-item.ensures in
    let took = first_left slots at.passed token c.in_ok-item.item c.past-token.ensures kept.0
    taken.item in
    let none = none_passed_more slots at.passed token c.past-token.ensures (omega arith) kept.0 in
    let ready : (t : ℕ) → t ≤ at.passed + 1
    → item_at c.remove.new.self t ≡ None = rw taken.removed none in
    let fewer : length (items at.slab.now) ≡ suc (length (items c.remove.new.self)) =
    rw taken.removed (ap length took) in
    let before : length (items c.args.self.now.slab.now) ≡ length (items at.slab.now) =
    rw kept.1 refl in
    record { on = λ finite. (ready, finite, omega arith); keeps = ready; rests = λ _. tt }

pub returns-clause-steps : goal.returns-clause-steps
returns-clause-steps g c =
    let at = c.loop-self.self in
    let kept = c.loop-self.invariant in
    let none = none_left_past at.slab.now.slots at.passed (omega arith) kept.0 in
    rw (← kept.1) ((none, none), (refl, refl), kept.0)
