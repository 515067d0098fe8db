use Rattle.quick_cache_locked.proofs.LoadLemmas.{Peeks-shows}
use Rattle.quick_cache_locked.proofs.locked.loading.LockedShardLoadingShard.find.Goals as goal

-- a look shows a clone of what is there
pub returns-clause-shows : goal.returns-clause-shows
returns-clause-shows g c =
    Peeks-shows g.L.Lifecycle g.K.PartialEq.eq g.V.Clone.is_clone
    (g.Q.Equivalent.equivalent c.args.query.now) c.args.self.now c.find.ensures.kept c.find.result
    c.find.ensures.finds
