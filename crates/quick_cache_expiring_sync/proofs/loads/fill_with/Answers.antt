use Rattle.std.proofs.Common.{IfOk, IfSome, sym, subst}
use Rattle.quick_cache_expiring.specs.Lastings.{lasting_of}
use Rattle.quick_cache_expiring_sync.proofs.loads.fill_with.Goals as goal

-- a clone of what fits the guard's key fits it
pub insert-requires-clause-fits : goal.insert-requires-clause-fits
insert-requires-clause-fits g c =
    let fits = g.L.Lifecycle.fits in
    c.requires.clones c.in-Some.guard (lasting_of c.in_ok-loaded.field-0 c.args.until)
    c.in-Ok.copy c.in-Ok.ensures.cases
    (subst
    (λ loaded. IfOk loaded (λ value. fits c.in-Some.guard (lasting_of value c.args.until)))
    c.in_ok-loaded.was
    (subst
    (λ guard. IfSome guard (λ key. IfOk c.args.loaded
    (λ value. fits key (lasting_of value c.args.until))))
    (sym c.in-Some.ensures.value)
    c.requires.fits))
