use Rattle.std.specs.Prelude.{◌≡◌}
use Rattle.quick_cache_shard.specs.WalksFrom.{number_or_zero}
use Rattle.quick_cache_sync.specs.Walks.{ComesTo, EndsUpTo}
use Rattle.quick_cache_sync.proofs.calls.walks.IterIterator.next.Given as goal

-- the walk has come to the next shard
abbrev pub invariant-loop-index : goal.invariant-loop-index
invariant-loop-index g l = record {
  shards : l.self-inside.cache.now.shards ≡ l.fn.self.shards;
  at : l.self-inside.shard ≡ l.index;
  comes : ComesTo l.fn.self.at l.self-inside.shard (number_or_zero l.self-inside.after);
  ends : EndsUpTo g.L.Lifecycle g.K.PartialEq.eq g.row.We.Denot g.row.B.Denot l.fn.self.at
      l.self-inside.shard;
}
