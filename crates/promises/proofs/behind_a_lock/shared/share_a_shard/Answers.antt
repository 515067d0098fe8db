use Rattle.std.proofs.Common.{◌∙◌, ap, sym}
use Rattle.quick_cache_model.specs.Hashing.{hash_of}
use Rattle.quick_cache_sync.specs.Shards.{shard_of_hash}
use Rattle.promises.proofs.behind_a_lock.shared.share_a_shard.Goals as goal

-- equal keys write the same to a hasher
pub returns-clause-one : goal.returns-clause-one
returns-clause-one g c =
    c.shard_index.ensures.index
    ∙ ap (λ writes. shard_of_hash c.args.cache.now.shards
    (hash_of g.B.BuildHasher g.B.Hasher.Hasher c.args.cache.now.builder writes))
    (g.met.K.Hash.respects_eq c.args.first.now c.args.second.now c.requires.same)
    ∙ sym c.shard_index-2.ensures.index
