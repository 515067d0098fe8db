use Rattle.std.proofs.Common.{length, ap, ◌∙◌, arith}
use Rattle.quick_cache_store.specs.Queues.{tokens_at}
use Rattle.quick_cache_store.proofs.queue.PlaceLemmas.{begins-full, counted-empty}
use Rattle.quick_cache_store.proofs.queue.token_queue.TokenQueue.drop_empty.Goals as goal

pub returns-then-self-eq0-clause-sound : goal.returns-then-self-eq0-clause-sound
returns-then-self-eq0-clause-sound g c = record {
  counted = c.requires;
  begins = begins-full c.args.self.now.places.items (omega (arith, c.requires));
}

-- the place that went was empty, and was counted
pub overflow_sub-self : goal.overflow_sub-self
overflow_sub-self g c =
    let queue = c.loop-self.self in
    let went = counted-empty queue.places.items queue.empty c.loop-self-test.ensures
    c.loop-self.invariant.1 in
    omega (arith, went.0, c.drop_place.ensures.empty)

pub loop-self-preserved : goal.loop-self-preserved
loop-self-preserved g c =
    let queue = c.loop-self.self in
    let went = counted-empty queue.places.items queue.empty c.loop-self-test.ensures
    c.loop-self.invariant.1 in
    let same = ap tokens_at c.drop_place.ensures.places ∙ went.1 in (
      same ∙ c.loop-self.invariant.0,
      omega (
        arith,
        c.drop_place.ensures.empty,
        went.0,
        went.2,
        ap length c.drop_place.ensures.places,
        ap length same,
        c.loop-self.invariant.1,
      ),
      c.drop_place.ensures.capacity ∙ c.loop-self.invariant.2,
    )
