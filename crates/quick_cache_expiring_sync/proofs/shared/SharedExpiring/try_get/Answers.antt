use Rattle.std.proofs.Common.{Ok, IfSome, ap, subst, sym}
use Rattle.quick_cache_expiring_sync.specs.Looks.{FitsAt}
use Rattle.quick_cache_expiring_sync.proofs.LookLemmas.{FitsAt-serving, FromSome-map, IsTried-refused}
use Rattle.quick_cache_expiring_sync.proofs.shared.SharedExpiring.try_get.Goals as goal

-- of what some shard showed, what serves is given
pub returns-in-Ok-clause-answers : goal.returns-in-Ok-clause-answers
returns-in-Ok-clause-answers g c =
    FromSome-map g.L.Lifecycle g.K.PartialEq.eq _ _
    (λ shard so. record {
      found = Ok c.in-Ok.found;
      peeks = so;
      serves = ap Ok c.serving.ensures;
    }) c.in-Ok.ensures.answers

pub returns-in-Ok-clause-fits : goal.returns-in-Ok-clause-fits
returns-in-Ok-clause-fits g c clones =
    subst
    (λ shown. IfSome shown
    (FitsAt g.L.Lifecycle.fits (g.Q.Equivalent.equivalent c.args.query.now) c.args.now))
    (sym c.serving.ensures)
    (FitsAt-serving g.L.Lifecycle.fits (g.Q.Equivalent.equivalent c.args.query.now) c.args.now
    c.in-Ok.found (c.in-Ok.ensures.fits clones))

-- or it was refused
pub returns-in-Err-clause-answers : goal.returns-in-Err-clause-answers
returns-in-Err-clause-answers g c =
    IsTried-refused _ _ g.L.Lifecycle g.K.PartialEq.eq (g.Q.Equivalent.equivalent c.args.query.now)
    g.V.Clone.is_clone c.args.now c.in-Err.error c.in-Err.ensures.answers
