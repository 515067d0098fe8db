use Rattle.quick_cache_shard.specs.Steps.{goes_by}
use Rattle.quick_cache_locked.specs.Touches.{any_touches}
use Rattle.quick_cache_locked.proofs.LoadLemmas.{EndsLoad-lacks, EndsLoad-some}
use Rattle.quick_cache_locked.proofs.locked.loading.LockedShardLoadingShard.end_load.Goals as goal

-- the load ended in this shard, which is kept
pub returns-clause-told : goal.returns-clause-told
returns-clause-told g c =
    rw (c.requires.filled, ← c.waited.ensures)
    (EndsLoad-some g.L.Lifecycle g.K.PartialEq.eq
    (goes_by g.K.Hash.hash_input g.We.Weighter g.B.BuildHasher g.B.Hasher.Hasher g.L.Lifecycle)
    any_touches c.args.self.now c.args.placeholder.now.ticket c.waited.result c.args.key.now
    c.args.value c.end_load.new.self c.args.state.now c.end_load.new.state c.end_load.result
    c.end_load.ensures.ends c.end_load.ensures.kept)

-- or its placeholder was not there
pub returns-clause-lacks : goal.returns-clause-lacks
returns-clause-lacks g c =
    rw c.requires.filled
    (EndsLoad-lacks g.K.PartialEq.eq
    (goes_by g.K.Hash.hash_input g.We.Weighter g.B.BuildHasher g.B.Hasher.Hasher g.L.Lifecycle)
    any_touches c.args.self.now c.args.placeholder.now.ticket c.waited.result c.args.key.now
    c.args.value c.end_load.new.self c.args.state.now c.end_load.new.state c.end_load.result
    c.end_load.ensures.ends)
