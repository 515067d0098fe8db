use Rattle.std.proofs.Common.{Some, None, Ok, refl}
use Rattle.quick_cache_locked.specs.Peeks.{Peeks}
use Rattle.quick_cache_locked.proofs.PeekLemmas.{Peeks-refused, Peeks-fits}
use Rattle.quick_cache_locked.proofs.locked.LockedShard.peek.Goals as goal

-- nothing is there, so nothing is shown
pub returns-in-None-clause-peeks : goal.returns-in-None-clause-peeks
returns-in-None-clause-peeks g c =
    rw (← c.self.view_is) (Peeks.peeks None None c.in-None.ensures.sees tt)

-- the copy is a clone of the value that is there
pub returns-in-Ok-clause-peeks : goal.returns-in-Ok-clause-peeks
returns-in-Ok-clause-peeks g c =
    rw (← c.self.view_is)
    (Peeks.peeks (Some c.in-Some.value.now) (Some c.in-Ok.copy) c.in-Some.ensures.sees
    c.in-Ok.ensures.cases)

-- an item is there, so there was something to clone
pub returns-in-Err-clause-peeks : goal.returns-in-Err-clause-peeks
returns-in-Err-clause-peeks g c =
    rw (← c.self.view_is)
    (Peeks-refused (g.Q.Equivalent.equivalent c.args.query.now) g.V.Clone.is_clone
    c.self.inside.shard.state (Some c.in-Some.value.now) c.in-Some.ensures.sees refl)

-- the shard has values that fit, and the copy is a clone of one
pub returns-in-Ok-clause-fits : goal.returns-in-Ok-clause-fits
returns-in-Ok-clause-fits g c clones =
    Peeks-fits (g.Q.Equivalent.equivalent c.args.query.now) g.V.Clone.is_clone _
    g.L.Lifecycle.fits (Ok (Some c.in-Ok.copy)) (returns-in-Ok-clause-peeks g c)
    c.facts.ensures.fit clones
