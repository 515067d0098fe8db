use Rattle.std.proofs.Common.{Option, Ok, refl, rules, subst}
use Rattle.quick_cache_expiring.specs.declared.loaded.Loaded.{Loaded}
use Rattle.quick_cache_expiring.specs.Moments.{IsYoung}
use Rattle.quick_cache_locked.specs.Peeks.{Peeks}
use Rattle.read_through.specs.Serving.{ClonesLoaded}
use Rattle.read_through.proofs.reading.ReadThrough.served.Goals as goal

-- what was found serves, and is not due
pub returns-clause-young : goal.returns-clause-young
returns-clause-young g c =
    let some = c.in-Ok-Some.ensures.answers in
    record {
      shard = some.shard;
      kept = some.kept;
      holds = record {
        found = c.in-Ok-Some.found;
        shows = subst
            (λ (shown : Option (Loaded _)). Peeks (g.Q.Equivalent.equivalent c.args.query.now)
            (ClonesLoaded g.V.Clone.is_clone) some.shard.state (Ok shown))
            c.in-Ok-Some.field-0-is
            some.holds;
        young = rw (← c.self.view_is)
            (subst
            (λ life. IsYoung life c.in-Ok-Some.found.moment c.in-Ok-Some.found.asked
            c.args.refresh_after c.args.now)
            c.life-life.ensures
            (c.if-not-is_young.ensures.0 refl));
        is = search rules;
      };
    }
