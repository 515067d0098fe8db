use Rattle.std.proofs.Common.{◌≡◌, length, arith, get_or, not, eqb}
use Rattle.quick_cache_store.proofs.queue.PlaceLemmas.{gathered, not_gathered, gathered_within}
use Rattle.quick_cache_store.proofs.queue.token_queue.gather.Goals as goal

pub loop-place-preserved : goal.loop-place-preserved
loop-place-preserved g c =
    let l = c.loop-place in
    let old = c.args.places.now in
    let same : length l.places ≡ length old = omega arith in
    let below = c.loop-place-test.true in
    let within = l.invariant.2 in
    let front = l.invariant.0 in
    let rest = l.invariant.1 in (
      gathered l.places old l.count l.place below same within front rest c.from-count.result
          c.from-count.ensures,
      not_gathered l.places old l.count l.place below same within front rest
          (get_or l.places l.place 0),
      gathered_within l.places old l.count l.place below same within front rest
          (not (eqb (get_or l.places l.place 0) 0)) c.from-count.result c.from-count.ensures,
    )
