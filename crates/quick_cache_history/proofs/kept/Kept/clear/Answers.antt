use Rattle.std.proofs.Common.{ap}
use Rattle.quick_cache_shard.specs.Shard.{terms_of}
use Rattle.quick_cache_history.proofs.KeptLemmas.{clears}
use Rattle.quick_cache_history.proofs.kept.Kept.clear.Goals as goal

-- all items were dropped
pub add-requires-clause-made : goal.add-requires-clause-made
add-requires-clause-made g c = rw c.made-entry.ensures.asks (record {
  old = c.self.inside.shard;
  same = ap terms_of c.clear.ensures.same;
  stood = c.self.invariant;
  step = λ steady. clears _ g.K.PartialEq.eq _ g.L.RequestState.Default.is_default c.self.inside.shard.state
      c.clear.new.self.state c.seat.inside.turn c.turn-next.result c.self.inside.past.shard c.clear.ensures.clears;
})
