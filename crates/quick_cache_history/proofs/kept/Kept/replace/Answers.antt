use Rattle.std.proofs.Common.{ap}
use Rattle.quick_cache_shard.specs.Shard.{terms_of}
use Rattle.quick_cache_history.proofs.KeptLemmas.{replaces}
use Rattle.quick_cache_history.proofs.kept.Kept.replace.Goals as goal

-- a replace answers as its definition says
pub add-requires-clause-made : goal.add-requires-clause-made
add-requires-clause-made g c = rw (c.made-entry.ensures.asks, c.made-asked.ensures.asks) (record {
  old = c.self.inside.shard;
  same = ap terms_of c.replace-result.ensures.same;
  stood = c.self.invariant;
  step = λ steady. replaces _ g.K.PartialEq.eq _ g.L.RequestState.Default.is_default c.self.inside.shard.state
      c.replace-result.new.self.state c.seat.inside.turn c.turn-next.result c.self.inside.past.shard _ steady
      c.args.soft c.args.key c.args.value c.replace-result.result c.args.state.now
      c.replace-result.new.state c.requires.fresh c.replace-result.ensures.replaces;
})
