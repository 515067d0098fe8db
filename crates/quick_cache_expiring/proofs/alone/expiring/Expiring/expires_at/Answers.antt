use Rattle.std.proofs.Common.{ap, option_copied}
use Rattle.quick_cache_expiring.proofs.EntryLemmas.{Sees-until, Sees-until-none}
use Rattle.quick_cache_expiring.proofs.alone.expiring.Expiring.expires_at.Goals as goal

pub returns-in_err-lasting : goal.returns-in_err-lasting
returns-in_err-lasting g c = record {
  sees = rw (← c.self.view_is, c.from_residual.ensures)
      (Sees-until-none (g.Q.Equivalent.equivalent c.args.query.now) c.self.inside.cache.state
      (option_copied c.peek.result) c.peek.ensures.sees (ap option_copied c.in_err-lasting.was));
}

pub returns : goal.returns
returns g c = record {
  sees = rw (← c.self.view_is)
      (Sees-until (g.Q.Equivalent.equivalent c.args.query.now) c.self.inside.cache.state
      (option_copied c.peek.result) c.peek.ensures.sees c.in_ok-lasting.lasting.now
      (ap option_copied c.in_ok-lasting.was));
}
