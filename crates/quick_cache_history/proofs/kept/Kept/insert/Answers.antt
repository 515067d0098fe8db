use Rattle.std.proofs.Common.{ap}
use Rattle.quick_cache_shard.specs.Shard.{terms_of}
use Rattle.quick_cache_history.proofs.KeptLemmas.{inserts}
use Rattle.quick_cache_history.proofs.kept.Kept.insert.Goals as goal

-- an insert that was written is a step of its definition
pub add-requires-clause-made : goal.add-requires-clause-made
add-requires-clause-made g c = rw c.made-entry.ensures.asks (record {
  old = c.self.inside.shard;
  same = ap terms_of c.insert.ensures.same;
  stood = c.self.invariant;
  step = λ steady. inserts _ g.K.PartialEq.eq _ g.L.RequestState.Default.is_default c.self.inside.shard.state
      c.insert.new.self.state c.seat.inside.turn c.turn-next.result c.self.inside.past.shard _ steady
      c.args.key c.args.value c.args.state.now c.insert.new.state c.requires.fresh
      c.in-Ok.ensures.inserts;
})

pub returns-in-Ok-clause-makes : goal.returns-in-Ok-clause-makes
returns-in-Ok-clause-makes g c = rw (← c.self.view_is) (record {
  same = ap terms_of c.insert.ensures.same;
  step = λ steady. inserts _ g.K.PartialEq.eq _ g.L.RequestState.Default.is_default c.self.inside.shard.state
      c.insert.new.self.state c.seat.inside.turn c.turn-next.result c.self.inside.past.shard _ steady
      c.args.key c.args.value c.args.state.now c.insert.new.state c.requires.fresh
      c.in-Ok.ensures.inserts;
})
