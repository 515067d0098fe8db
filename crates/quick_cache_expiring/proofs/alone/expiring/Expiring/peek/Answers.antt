use Rattle.std.proofs.Common.{ap, sym, ◌∙◌, option_copied}
use Rattle.quick_cache_expiring.proofs.EntryLemmas.{Shows-serves, Shows-over, Shows-absent}
use Rattle.quick_cache_expiring.proofs.alone.expiring.Expiring.peek.Goals as goal

pub returns-in_err-lasting : goal.returns-in_err-lasting
returns-in_err-lasting g c = record {
  shows = rw (← c.self.view_is, c.from_residual.ensures)
      (Shows-absent (g.Q.Equivalent.equivalent c.args.query.now) c.args.now
      c.self.inside.cache.state (option_copied c.peek.result) c.peek.ensures.sees
      (ap option_copied c.in_err-lasting.was));
}

pub returns-then-lives : goal.returns-then-lives
returns-then-lives g c = record {
  shows = rw (← c.self.view_is)
      (Shows-serves (g.Q.Equivalent.equivalent c.args.query.now) c.args.now
      c.self.inside.cache.state (option_copied c.peek.result) c.peek.ensures.sees
      c.in_ok-lasting.lasting.now (ap option_copied c.in_ok-lasting.was)
      (sym c.lives.ensures ∙ c.if-lives.true));
}

pub returns-else-lives : goal.returns-else-lives
returns-else-lives g c = record {
  shows = rw (← c.self.view_is)
      (Shows-over (g.Q.Equivalent.equivalent c.args.query.now) c.args.now
      c.self.inside.cache.state (option_copied c.peek.result) c.peek.ensures.sees
      c.in_ok-lasting.lasting.now (ap option_copied c.in_ok-lasting.was)
      (sym c.lives.ensures ∙ c.if-lives.false));
}
