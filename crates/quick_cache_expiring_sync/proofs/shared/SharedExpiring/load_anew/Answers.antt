use Rattle.std.proofs.Common.{inl, sym, subst}
use Rattle.quick_cache_expiring_sync.specs.Loads.{GivesAt}
use Rattle.quick_cache_expiring_sync.proofs.TellLemmas.{FitsAt-told}
use Rattle.quick_cache_expiring_sync.proofs.shared.SharedExpiring.load_anew.Goals as goal

-- the look told a clone of what lives
pub returns-in-Retained-Ok-clause-gives : goal.returns-in-Retained-Ok-clause-gives
returns-in-Retained-Ok-clause-gives g c =
    let told = c.in-Retained-Ok.ensures.told in
    subst
    (GivesAt g.L.Lifecycle.fits (g.Q.Equivalent.equivalent c.args.query.now)
    (g.F.FnOnce.post c.args.loader tt) c.args.now)
    (sym c.in-Retained-Ok.value-is)
    (inl (FitsAt-told _ g.L.Lifecycle.fits (g.Q.Equivalent.equivalent c.args.query.now) _
    c.args.now g.V.Clone.is_clone c.requires.clones _ told c.in-Retained-Ok.value
    told.called.called.1 c.in-Retained-Ok.field-0-is))
