use Rattle.std.proofs.Common.{Ok, Err, rules}
use Rattle.quick_cache_sync.proofs.AskedLemmas.{ChangesOrTakesSo-says, LeavesOf-says}
use Rattle.quick_cache_expiring.specs.Entries.{AnswersAt}
use Rattle.quick_cache_expiring_sync.specs.Renewals.{RenewsClone}
use Rattle.quick_cache_expiring_sync.proofs.LookLemmas.{FromSome-map}
use Rattle.quick_cache_expiring_sync.proofs.RenewLemmas.{FitsAt-renewed, RenewsClone-fitting}
use Rattle.quick_cache_expiring_sync.proofs.shared.SharedExpiring.get_and_touch.Goals as goal

-- with the new end it fits, or it was left as it was
pub change_or_take-requires-clause-leaves : goal.change_or_take-requires-clause-leaves
change_or_take-requires-clause-leaves g c = λ key value told left stands fit passed did.
    RenewsClone-fitting g.L.Lifecycle.fits (g.Q.Equivalent.equivalent c.args.query.now) c.args.now
    (AnswersAt c.args.now) (λ lasting said says. says) c.end_of-until.result
    (rw (← c.end_of-until.ensures) at c.requires.renews) g.V.Clone.is_clone
    (RenewsClone g.V.Clone.is_clone c.end_of-until.result) (λ was tells now renews. renews) key
    value told left stands fit (search rules)
    (LeavesOf-says _ _ (RenewsClone g.V.Clone.is_clone c.end_of-until.result) value told left did
    did.called)

-- it lived, and a clone of it is given
pub returns-in-Ok-Ok-clause-answers : goal.returns-in-Ok-Ok-clause-answers
returns-in-Ok-Ok-clause-answers g c =
    rw (← c.end_of-until.ensures) (FromSome-map g.L.Lifecycle g.K.PartialEq.eq _ _
    (λ shard. ChangesOrTakesSo-says _ (RenewsClone g.V.Clone.is_clone c.end_of-until.result)
    (λ value told left leaves. LeavesOf-says _ _
    (RenewsClone g.V.Clone.is_clone c.end_of-until.result) value told left leaves leaves.called)
    (g.Q.Equivalent.equivalent c.args.query.now) _ (AnswersAt c.args.now)
    (λ lasting said told. search rules) _ shard.state (Ok (Ok c.in-Ok-Ok.value)))
    (rw c.in-Ok-Ok.field-0-is at c.in-Ok-Ok.ensures.answers))

pub returns-in-Ok-Ok-clause-fits : goal.returns-in-Ok-Ok-clause-fits
returns-in-Ok-Ok-clause-fits g c clones =
    FitsAt-renewed g.L.Lifecycle.fits (g.Q.Equivalent.equivalent c.args.query.now) c.args.now _
    (λ lasting said told. search rules) c.end_of-until.result g.V.Clone.is_clone _
    (λ value told left leaves. LeavesOf-says _ _
    (RenewsClone g.V.Clone.is_clone c.end_of-until.result) value told left leaves leaves.called)
    clones c.in-Ok-Ok.value (rw c.in-Ok-Ok.field-0-is at c.in-Ok-Ok.ensures.told)

-- or there was no memory for one
pub returns-in-Ok-Err-clause-answers : goal.returns-in-Ok-Err-clause-answers
returns-in-Ok-Err-clause-answers g c =
    rw (← c.end_of-until.ensures) (FromSome-map g.L.Lifecycle g.K.PartialEq.eq _ _
    (λ shard. ChangesOrTakesSo-says _ (RenewsClone g.V.Clone.is_clone c.end_of-until.result)
    (λ value told left leaves. LeavesOf-says _ _
    (RenewsClone g.V.Clone.is_clone c.end_of-until.result) value told left leaves leaves.called)
    (g.Q.Equivalent.equivalent c.args.query.now) _ (AnswersAt c.args.now)
    (λ lasting said told. search rules) _ shard.state (Ok (Err c.in-Ok-Err.refusal)))
    (rw c.in-Ok-Err.field-0-is at c.in-Ok-Err.ensures.answers))

-- it was over, or none was there
pub returns-in-Err-clause-answers : goal.returns-in-Err-clause-answers
returns-in-Err-clause-answers g c =
    rw (← c.end_of-until.ensures) (FromSome-map g.L.Lifecycle g.K.PartialEq.eq _ _
    (λ shard so. (
      c.in-Err.taken,
      ChangesOrTakesSo-says _ (RenewsClone g.V.Clone.is_clone c.end_of-until.result)
          (λ value told left leaves. LeavesOf-says _ _
          (RenewsClone g.V.Clone.is_clone c.end_of-until.result) value told left leaves
          leaves.called) (g.Q.Equivalent.equivalent c.args.query.now) _ (AnswersAt c.args.now)
          (λ lasting said told. search rules) _ shard.state (Err c.in-Err.taken) so,
    )) c.in-Err.ensures.answers)
