use Rattle.std.proofs.Common.{ap, Ok}
use Rattle.quick_cache_expiring_sync.proofs.LookLemmas.{FromSome-map, ShowsEnd-found, handed-on}
use Rattle.quick_cache_expiring_sync.proofs.shared.SharedExpiring.expires_at.Goals as goal

pub returns-in_err-found : goal.returns-in_err-found
returns-in_err-found g c = record {
  answers = rw
      (handed-on c.from_residual.result c.in_err-found.field-0.0 c.from_residual.ensures.1)
      c.in_err-found.ensures.answers;
}

pub returns-in_default : goal.returns-in_default
returns-in_default g c = record {
  answers = rw c.in_default.is at c.in_ok-found.ensures.answers;
}

-- the end is that of the clone
pub returns : goal.returns
returns g c = record {
  answers = FromSome-map g.L.Lifecycle g.K.PartialEq.eq _ _
      (λ shard. ShowsEnd-found (g.Q.Equivalent.equivalent c.args.query.now) g.V.Clone.is_clone
      (Ok c.in_ok-found.found) shard.state c.in-Some.lasting (ap Ok c.in-Some.is))
      c.in_ok-found.ensures.answers;
}
