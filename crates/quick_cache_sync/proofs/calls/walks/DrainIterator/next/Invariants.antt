use Rattle.std.specs.Prelude.{◌≡◌, ◌≤◌}
use Rattle.std.specs.Iterator.{size}
use Rattle.quick_cache_shard.specs.WalksFrom.{number_or_zero}
use Rattle.quick_cache_sync.specs.Walks.{ComesTo, EndsUpTo, tokens_ahead}
use Rattle.quick_cache_sync.proofs.calls.walks.DrainIterator.next.Given as goal

-- the walk is at the next shard, and no more tokens are ahead than at first
abbrev pub invariant-loop-index : goal.invariant-loop-index
invariant-loop-index g l = record {
  shards : l.self-inside.cache.now.shards ≡ l.fn.self.shards;
  at : l.self-inside.shard ≡ l.index;
  ahead : size (tokens_ahead l.fn.self.shards (l.self-inside.shard, l.self-inside.after))
      ≤ size (tokens_ahead l.fn.self.shards l.fn.self.at);
  comes : ComesTo l.fn.self.at l.self-inside.shard (number_or_zero l.self-inside.after);
  ends : EndsUpTo g.L.Lifecycle g.K.PartialEq.eq g.row.We.Denot g.row.B.Denot l.fn.self.at
      l.self-inside.shard;
}
