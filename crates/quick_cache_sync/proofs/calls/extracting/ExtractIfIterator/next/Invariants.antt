use Rattle.std.specs.Prelude.{◌≡◌, ◌≤◌}
use Rattle.std.specs.Iterator.{size}
use Rattle.quick_cache_shard.specs.Predicates.{Answers}
use Rattle.quick_cache_shard.specs.WalksFrom.{number_or_zero}
use Rattle.quick_cache_sync.specs.Walks.{ComesTo, WantsNoneUpTo, tokens_ahead}
use Rattle.quick_cache_sync.proofs.calls.extracting.ExtractIfIterator.next.Given as goal

-- the walk is at the next shard, no more tokens are ahead than at first, and none was wanted so far
abbrev pub invariant-loop-index : goal.invariant-loop-index
invariant-loop-index g l = record {
  shards : l.self-inside.cache.now.shards ≡ l.fn.self.shards;
  wanted : l.self-inside.wanted ≡ l.fn.self.wanted;
  at : l.self-inside.shard ≡ l.index;
  ahead : size (tokens_ahead l.fn.self.shards (l.self-inside.shard, l.self-inside.after))
      ≤ size (tokens_ahead l.fn.self.shards l.fn.self.at);
  comes : ComesTo l.fn.self.at l.self-inside.shard (number_or_zero l.self-inside.after);
  none : WantsNoneUpTo g.L.Lifecycle g.K.PartialEq.eq g.row.We.Denot g.row.B.Denot
      (Answers g.F.Fn l.fn.self.wanted) l.fn.self.at l.self-inside.shard;
}
