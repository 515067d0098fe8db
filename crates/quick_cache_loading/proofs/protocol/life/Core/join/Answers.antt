use Rattle.std.proofs.Common.{◌≡◌, ◌++◌, ◌∷◌, [], false, rules}
use Rattle.quick_cache_loading.specs.Core.{is_handed_to}
use Rattle.quick_cache_loading.specs.Waiting.{has}
use Rattle.quick_cache_loading.proofs.WaiterLists.{is_apart-push}
use Rattle.quick_cache_loading.proofs.protocol.life.Core.join.Goals as goal

-- Who joins neither waits nor was handed the guard.
pub invariant_of-self-in-Loading : goal.invariant_of-self-in-Loading
invariant_of-self-in-Loading g c =
    let added : c.push.new.self.items ≡ c.self.inside.waiters.items ++ c.args.waiter ∷ [] = search rules in
    let other : is_handed_to c.in-Loading.holder c.args.waiter ≡ false = search rules in
    let absent : has c.args.waiter c.self.inside.waiters.items ≡ false = search rules in
    rw (c.in-Loading.is, added) (is_apart-push c.in-Loading.holder c.self.inside.waiters.items
    c.args.waiter (rw c.in-Loading.is at c.self.invariant) other absent)
