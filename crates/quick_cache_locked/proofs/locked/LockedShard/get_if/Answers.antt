use Rattle.quick_cache_locked.proofs.ChangeLemmas.{MayBeAsked-fitting, PeeksIf-fits}
use Rattle.quick_cache_locked.proofs.locked.LockedShard.get_if.Goals as goal

-- the test is shown a value that fits
pub get_clone_if-requires-clause-callable : goal.get_clone_if-requires-clause-callable
get_clone_if-requires-clause-callable g c =
    MayBeAsked-fitting g.L.Lifecycle.fits (g.Q.Equivalent.equivalent c.args.query.now)
    c.self.inside.shard.state c.self.invariant g.F.FnOnce c.args.test c.requires.callable

pub returns-clause-gets : goal.returns-clause-gets
returns-clause-gets g c = rw (← c.self.view_is) c.get_clone_if.ensures.peeks

pub returns-clause-fits : goal.returns-clause-fits
returns-clause-fits g c clones =
    PeeksIf-fits g.L.Lifecycle.fits (g.Q.Equivalent.equivalent c.args.query.now)
    c.self.inside.shard.state c.self.invariant g.V.Clone.is_clone _ c.get_clone_if.result
    c.get_clone_if.ensures.peeks clones
