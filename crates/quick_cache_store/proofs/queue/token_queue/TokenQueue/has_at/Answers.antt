use Rattle.std.proofs.Common.{refl, arith}
use Rattle.std.specs.Int.NonZero.{non_zero_u32_get as number}
use Rattle.quick_cache_store.proofs.queue.PlaceLemmas.{stands_where_same}
use Rattle.quick_cache_store.proofs.queue.token_queue.TokenQueue.has_at.Goals as goal

pub returns-in-Some : goal.returns-in-Some
returns-in-Some g c =
    let queue = c.args.self.now in
    let ok = queue.places.ok in
    let some = c.in-Some.ensures.variant.0 refl in
    rw c.get-in-Some.ensures.value (stands_where_same queue.places.items c.args.place
    c.in-Some.here.now (number c.args.token) (omega arith) c.in-Some.ensures.lookup)
