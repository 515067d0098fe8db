use Rattle.std.proofs.Common.{ap}
use Rattle.quick_cache_shard.specs.Shard.{terms_of}
use Rattle.quick_cache_history.proofs.KeptLemmas.{removes_if}
use Rattle.quick_cache_history.proofs.kept.Kept.remove_if.Goals as goal

-- a removal by a predicate is one by what it answered
pub add-requires-clause-made : goal.add-requires-clause-made
add-requires-clause-made g c = rw c.made-entry.ensures.asks (record {
  old = c.self.inside.shard;
  same = ap terms_of c.remove_if-pair.ensures.same;
  stood = c.self.invariant;
  step = λ steady. removes_if _ g.K.PartialEq.eq _ g.L.RequestState.Default.is_default c.self.inside.shard.state
      c.remove_if-pair.new.self.state c.seat.inside.turn c.turn-next.result c.self.inside.past.shard _
      c.args.key.now c.remove_if-pair.result c.remove_if-pair.ensures.asks;
})
