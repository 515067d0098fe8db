use Rattle.std.proofs.Common.{refl, arith}
use Rattle.std.proofs.lemmas.List.Sorted.{length_permutation}
use Rattle.quick_cache_shard.proofs.DrainLemmas.{DrainSteps-takes, TakesItem-gives}
use Rattle.quick_cache_unsync.specs.CacheDrain.{held}
use Rattle.quick_cache_unsync.proofs.walking.drain.DrainIterator.next.Goals as goal

pub returns-clause-steps : goal.returns-clause-steps
returns-clause-steps g c =
    let taken = c.in_ok-token.ensures in
    DrainSteps-takes held _ _ c.in_ok-token.pair refl taken.takes
    (omega (arith, taken.stays.room)) taken.stays.same

pub returns-clause-goes : goal.returns-clause-goes
returns-clause-goes g c =
    let gives = TakesItem-gives c.args.self.now.cache.now c.take_next.new.self c.in_ok-token.pair
    c.in_ok-token.ensures.takes in
    let fewer = length_permutation _ _ gives in
    record { on = λ finite. (tt, finite, omega (arith, fewer)); keeps = tt; rests = λ _. tt }
