use Rattle.quick_cache_locked.proofs.PeekLemmas.{Peeks-cloned, Peeks-fits}
use Rattle.quick_cache_locked.proofs.locked.LockedShard.get.Goals as goal

-- the shard's look-up gives a clone of what is there
pub returns-clause-gets : goal.returns-clause-gets
returns-clause-gets g c =
    rw (← c.self.view_is)
    (Peeks-cloned (g.Q.Equivalent.equivalent c.args.query.now) g.V.Clone.is_clone
    c.self.inside.shard.state c.get_clone.result c.get_clone.ensures.shows
    c.get_clone.ensures.refused c.get_clone.ensures.there)

-- the shard has values that fit, and the answer is a clone of one
pub returns-clause-fits : goal.returns-clause-fits
returns-clause-fits g c clones =
    Peeks-fits (g.Q.Equivalent.equivalent c.args.query.now) g.V.Clone.is_clone _
    g.L.Lifecycle.fits c.get_clone.result (returns-clause-gets g c)
    c.facts.ensures.fit clones
