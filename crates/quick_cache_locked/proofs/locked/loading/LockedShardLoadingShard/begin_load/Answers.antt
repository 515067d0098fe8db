use Rattle.quick_cache_locked.proofs.LoadLemmas.{Begun-refuses, Begun-shows}
use Rattle.quick_cache_locked.proofs.locked.loading.LockedShardLoadingShard.begin_load.Goals as goal

-- a load that begins shows a clone of what is there, or is refused as the shard says
pub returns-clause-shows : goal.returns-clause-shows
returns-clause-shows g c =
    Begun-shows g.L.Lifecycle g.K.PartialEq.eq g.V.Clone.is_clone
    (g.Q.Equivalent.equivalent c.args.query.now) c.args.self.now c.begin_load.ensures.kept _ _ _
    c.begin_load.result _ c.begin_load.ensures.begins

pub returns-clause-refuses : goal.returns-clause-refuses
returns-clause-refuses g c =
    Begun-refuses g.L.Lifecycle g.K.PartialEq.eq g.V.Clone.is_clone
    (g.Q.Equivalent.equivalent c.args.query.now) c.args.self.now c.begin_load.ensures.kept _ _ _
    c.begin_load.result _ c.begin_load.ensures.begins
