use Rattle.std.proofs.Common.{Ok, Err, rules}
use Rattle.quick_cache_sync.proofs.AskedLemmas.{ChangesOrTakesSo-says, LeavesOf-says}
use Rattle.quick_cache_expiring.specs.Entries.{AnswersAt}
use Rattle.quick_cache_expiring_sync.specs.Renewals.{Renews}
use Rattle.quick_cache_expiring_sync.proofs.LookLemmas.{FromSome-map}
use Rattle.quick_cache_expiring_sync.proofs.RenewLemmas.{HasLived-told, Renews-fitting}
use Rattle.quick_cache_expiring_sync.proofs.shared.SharedExpiring.touch.Goals as goal

-- with the new end it fits
pub change_or_take-requires-clause-leaves : goal.change_or_take-requires-clause-leaves
change_or_take-requires-clause-leaves g c = λ key value told left stands fit passed did.
    Renews-fitting g.L.Lifecycle.fits (g.Q.Equivalent.equivalent c.args.query.now) c.args.now
    (AnswersAt c.args.now) (λ lasting said says. says) c.end_of-until.result
    (rw (← c.end_of-until.ensures) at c.requires.renews) (Renews c.end_of-until.result)
    (λ was tells now renews. renews) key value told left stands fit (search rules)
    (LeavesOf-says _ _ (Renews c.end_of-until.result) value told left did did.called)

-- it has the new end
pub returns-in-Ok-clause-answers : goal.returns-in-Ok-clause-answers
returns-in-Ok-clause-answers g c =
    rw (← c.end_of-until.ensures) (FromSome-map g.L.Lifecycle g.K.PartialEq.eq _ _
    (λ shard. ChangesOrTakesSo-says _ (Renews c.end_of-until.result)
    (λ value told left leaves. LeavesOf-says _ _ (Renews c.end_of-until.result) value told left
    leaves leaves.called) (g.Q.Equivalent.equivalent c.args.query.now) _ (AnswersAt c.args.now)
    (λ lasting said told. search rules) _ shard.state (Ok tt)) c.in-Ok.ensures.answers)

-- and lived
pub returns-in-Ok-clause-lived : goal.returns-in-Ok-clause-lived
returns-in-Ok-clause-lived g c = λ _.
    HasLived-told g.L.Lifecycle.fits (g.Q.Equivalent.equivalent c.args.query.now) c.args.now _
    (λ lasting said told. search rules) _ tt c.in-Ok.ensures.told

-- it was over, or none was there
pub returns-in-Err-clause-answers : goal.returns-in-Err-clause-answers
returns-in-Err-clause-answers g c =
    rw (← c.end_of-until.ensures) (FromSome-map g.L.Lifecycle g.K.PartialEq.eq _ _
    (λ shard so. (
      c.in-Err.taken,
      ChangesOrTakesSo-says _ (Renews c.end_of-until.result)
          (λ value told left leaves. LeavesOf-says _ _ (Renews c.end_of-until.result) value told
          left leaves leaves.called) (g.Q.Equivalent.equivalent c.args.query.now) _
          (AnswersAt c.args.now) (λ lasting said told. search rules) _ shard.state
          (Err c.in-Err.taken) so,
    )) c.in-Err.ensures.answers)
