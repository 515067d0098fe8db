use Rattle.std.proofs.Common.{Ok, Err, subst}
use Rattle.quick_cache_shard.specs.Shard.{Shard}
use Rattle.quick_cache_shard.specs.Steps.{goes_by}
use Rattle.quick_cache_unsync.specs.Saving.{RestoresInTurn}
use Rattle.quick_cache_unsync.proofs.cache.Cache.restored.Goals as goal

-- a pair was refused by the cache that was made
pub returns-in-Err-clause-stops : goal.returns-in-Err-clause-stops
returns-in-Err-clause-stops g c = λ infallible. record {
  new = c.restore_all.new.self;
  stops = subst (λ (shard : Shard g.row.K.Denot g.row.V.Denot g.row.We.Denot g.row.B.Denot
      g.row.L.Denot). RestoresInTurn (goes_by g.K.Hash.hash_input g.We.Weighter g.B.BuildHasher
      g.B.Hasher.Hasher g.L.Lifecycle) g.K.PartialEq.eq g.I.Iterator.next_gives c.args.pairs shard
      (Err c.in-Err.refusal) c.restore_all.new.self) c.in_ok-cache.ensures.makes
      c.in-Err.ensures.restores;
}

-- all pairs came to the cache that was made
pub returns-clause-restores : goal.returns-clause-restores
returns-clause-restores g c =
    subst (λ (shard : Shard g.row.K.Denot g.row.V.Denot g.row.We.Denot g.row.B.Denot
    g.row.L.Denot). RestoresInTurn (goes_by g.K.Hash.hash_input g.We.Weighter g.B.BuildHasher
    g.B.Hasher.Hasher g.L.Lifecycle) g.K.PartialEq.eq g.I.Iterator.next_gives c.args.pairs shard
    (Ok tt) c.restore_all.new.self) c.in_ok-cache.ensures.makes
    c.in_default.ensures.restores
