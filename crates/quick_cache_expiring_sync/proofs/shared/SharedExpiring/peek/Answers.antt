use Rattle.std.proofs.Common.{Ok, Err, rules}
use Rattle.quick_cache_expiring_sync.proofs.LookLemmas.{FromSome-map, ShowsAt-tested, FitsAt-tested}
use Rattle.quick_cache_expiring_sync.proofs.shared.SharedExpiring.peek.Goals as goal

-- the value passed the test, which is whether it serves
pub returns-in-Ok-Ok-clause-answers : goal.returns-in-Ok-Ok-clause-answers
returns-in-Ok-Ok-clause-answers g c =
    FromSome-map g.L.Lifecycle g.K.PartialEq.eq _ _
    (λ shard. ShowsAt-tested (g.Q.Equivalent.equivalent c.args.query.now) g.V.Clone.is_clone
    c.args.now _ (λ lasting said told. search rules) shard.state (Ok (Ok c.in-Ok-Ok.lasting)))
    (rw c.in-Ok-Ok.field-0-is at c.in-Ok-Ok.ensures.answers)

pub returns-in-Ok-Ok-clause-fits : goal.returns-in-Ok-Ok-clause-fits
returns-in-Ok-Ok-clause-fits g c clones =
    let some = rw c.in-Ok-Ok.field-0-is at c.in-Ok-Ok.ensures.answers in
    FitsAt-tested (g.Q.Equivalent.equivalent c.args.query.now) g.V.Clone.is_clone c.args.now _
    (λ lasting said told. search rules) g.L.Lifecycle.fits some.shard.state c.in-Ok-Ok.lasting
    some.holds (rw c.in-Ok-Ok.field-0-is at c.in-Ok-Ok.ensures.fits clones)

-- or failed it, or none was there
pub returns-in-Ok-Err-clause-answers : goal.returns-in-Ok-Err-clause-answers
returns-in-Ok-Err-clause-answers g c =
    FromSome-map g.L.Lifecycle g.K.PartialEq.eq _ _
    (λ shard. ShowsAt-tested (g.Q.Equivalent.equivalent c.args.query.now) g.V.Clone.is_clone
    c.args.now _ (λ lasting said told. search rules) shard.state (Ok (Err _)))
    (rw c.in-Ok-Err.field-0-is at c.in-Ok-Err.ensures.answers)

pub returns-in-Err-clause-answers : goal.returns-in-Err-clause-answers
returns-in-Err-clause-answers g c =
    FromSome-map g.L.Lifecycle g.K.PartialEq.eq _ _
    (λ shard. ShowsAt-tested (g.Q.Equivalent.equivalent c.args.query.now) g.V.Clone.is_clone
    c.args.now _ (λ lasting said told. search rules) shard.state (Err c.in-Err.refusal))
    c.in-Err.ensures.answers
