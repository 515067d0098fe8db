use Rattle.std.proofs.Common.{◌∙◌, arith}
use Rattle.quick_cache_store.proofs.queue.PlaceLemmas.{turned_more}
use Rattle.quick_cache_store.proofs.queue.token_queue.TokenQueue.turn_places.Goals as goal

pub loop-preserved : goal.loop-preserved
loop-preserved g c = (
  c.turn_place.ensures.places ∙ turned_more c.args.self.now.places.items
      c.loop.self.places.items c.loop.counter (omega arith) c.loop.invariant.0,
  c.turn_place.ensures.empty ∙ c.loop.invariant.1,
  c.turn_place.ensures.capacity ∙ c.loop.invariant.2,
)
