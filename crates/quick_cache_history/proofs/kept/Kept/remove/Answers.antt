use Rattle.std.proofs.Common.{ap}
use Rattle.quick_cache_shard.specs.Shard.{terms_of}
use Rattle.quick_cache_history.proofs.KeptLemmas.{removes}
use Rattle.quick_cache_history.proofs.kept.Kept.remove.Goals as goal

-- so is a removal
pub add-requires-clause-made : goal.add-requires-clause-made
add-requires-clause-made g c = rw c.made-entry.ensures.asks (record {
  old = c.self.inside.shard;
  same = ap terms_of c.remove-pair.ensures.same;
  stood = c.self.invariant;
  step = λ steady. removes _ g.K.PartialEq.eq _ g.L.RequestState.Default.is_default c.self.inside.shard.state
      c.remove-pair.new.self.state c.seat.inside.turn c.turn-next.result c.self.inside.past.shard
      c.args.key.now c.remove-pair.result c.remove-pair.ensures.removes;
})

pub returns-clause-makes : goal.returns-clause-makes
returns-clause-makes g c = rw (← c.self.view_is) (record {
  same = ap terms_of c.remove-pair.ensures.same;
  step = λ steady. removes _ g.K.PartialEq.eq _ g.L.RequestState.Default.is_default c.self.inside.shard.state
      c.remove-pair.new.self.state c.seat.inside.turn c.turn-next.result c.self.inside.past.shard
      c.args.key.now c.remove-pair.result c.remove-pair.ensures.removes;
})
