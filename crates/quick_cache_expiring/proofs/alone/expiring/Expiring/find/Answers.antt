use Rattle.std.proofs.Common.{Ok, rules, refl}
use Rattle.quick_cache_expiring.proofs.EntryLemmas.{Gets-dropped, Gets-tested}
use Rattle.quick_cache_expiring.proofs.alone.expiring.Expiring.find.Goals as goal

-- it serves
pub returns-in-Ok : goal.returns-in-Ok
returns-in-Ok g c =
    let found = c.in-Ok.ensures.looks_up in
    record {
      finds = rw (← c.self.view_is) (
        found.0,
        Gets-tested (g.Q.Equivalent.equivalent c.args.query.now) c.args.now _
            (λ lasting said told. search rules) _ _ (Ok found.0) found.1 refl,
        found.2,
      );
    }

-- none serves
pub returns-in-Err : goal.returns-in-Err
returns-in-Err g c = record {
  finds = rw (← c.self.view_is, c.count_over.ensures)
      (Gets-dropped (g.Q.Equivalent.equivalent c.args.query.now) c.args.now _
      (λ lasting said told. search rules) _ _ c.in-Err.taken c.of.result c.of.ensures
      c.in-Err.ensures.looks_up refl);
}
