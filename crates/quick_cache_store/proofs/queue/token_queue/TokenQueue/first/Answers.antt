use Rattle.std.proofs.Common.{refl, arith}
use Rattle.quick_cache_store.proofs.queue.PlaceLemmas.{first_token}
use Rattle.quick_cache_store.proofs.queue.token_queue.TokenQueue.first.Goals as goal

pub returns-in-Some : goal.returns-in-Some
returns-in-Some g c =
    let queue = c.args.self.now in
    let ok = queue.places.ok in
    let some = c.in-Some.ensures.variant.0 refl in
    first_token queue.places.items c.in-Some.place.now c.new.result c.requires.begins
    (omega arith) c.in-Some.ensures.lookup c.new.ensures
